use Rattle.bz_load.proofs.Words.{◌≡◌, all_comments_joined, comments_without, drop, flat_map, gathered_comments}
use Rattle.bz_load.proofs.gathering.join_without_each.Given as goal

abbrev pub invariant-loop-item : goal.invariant-loop-item
invariant-loop-item l =
    all_comments_joined (gathered_comments l.gone) (flat_map (comments_without l.symbol) (drop l.item-index l.items)) ≡ all_comments_joined (gathered_comments l.fn.gone) (flat_map (comments_without l.symbol) l.items)
