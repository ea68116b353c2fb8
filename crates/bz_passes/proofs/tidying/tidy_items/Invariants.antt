use Rattle.bz_passes.proofs.Words.{◌++◌, ◌≡◌, drop, item_tidied, map, take}
use Rattle.bz_passes.proofs.tidying.tidy_items.Given as goal

abbrev pub invariant-loop-item : goal.invariant-loop-item
invariant-loop-item l = take l.item-index l.items ++ map item_tidied (drop l.item-index l.items) ≡ map item_tidied l.fn.items
