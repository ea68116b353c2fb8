use Rattle.bz_passes.proofs.Words.{flags, flags_proper, IsProper, Item, item_with_flags, length-map, List, subst, sym, whole_grammar}
use Rattle.bz_passes.proofs.EachChanged.{put_back}
use Rattle.bz_passes.proofs.leveling.level.Goals as goal

pub invariant_of-result : goal.invariant_of-result
invariant_of-result c =
    subst (λ (items : List Item). IsProper items) (sym (put_back flags c.args.file _ _ _ (length-map c.args.file item_with_flags) c.level_items.ensures c.as_mut_slice.ensures.value c.file.view_is))
    (flags_proper whole_grammar c.args.file (subst (λ (items : List Item). IsProper items) c.file.view_is c.file.invariant))
