-- What the items of a list and the symbols of a load are sorted by are orders: any two compare, and ties tie.
use Rattle.bz_passes.proofs.Words.{between, Expr, IsStrictWeakOrder, key_total, local_name, precedes, ranks_by, symbol_precedes, text_of}
use Rattle.std.proofs.lemmas.Cmp.{nat_list_cmp_total}

pub item_ranks : IsStrictWeakOrder precedes
item_ranks = ranks_by key_total (λ (x : Expr). between (text_of x))

pub symbol_ranks : IsStrictWeakOrder symbol_precedes
symbol_ranks = ranks_by nat_list_cmp_total local_name
