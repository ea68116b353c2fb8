use Rattle.bz_passes.proofs.Words.{◌++◌, ◌≡◌, drop, item_with_flags, map, take}
use Rattle.bz_passes.proofs.leveling.level_items.Given as goal

abbrev pub invariant-loop-item : goal.invariant-loop-item
invariant-loop-item l = take l.item-index l.items ++ map item_with_flags (drop l.item-index l.items) ≡ map item_with_flags l.fn.items
