-- What items are sorted by in runs are orders: any two items compare, and ties tie.
use Rattle.std.specs.Cmp.{IsStrictWeakOrder}
use Rattle.std.proofs.lemmas.Cmp.{nat_cmp_total, nat_list_cmp_total, then_total, on_total, back_total}
use Rattle.std.proofs.lemmas.List.MinMax.{ranks_by}
use Rattle.bz_passes.specs.Words.{group_of, priority_of}
use Rattle.bz_passes.specs.Passes.{argument_name, load_path, name_precedes, path_precedes}

pub name_ranks : IsStrictWeakOrder name_precedes
name_ranks = ranks_by (then_total (on_total priority_of nat_cmp_total) nat_list_cmp_total) argument_name

pub path_ranks : IsStrictWeakOrder path_precedes
path_ranks = ranks_by (then_total (on_total group_of (back_total nat_cmp_total)) nat_list_cmp_total) load_path
