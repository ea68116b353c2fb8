use Rattle.std.proofs.Common.{◌≡◌, take}
use Rattle.bz_value.proofs.copy.copy_items.Given as goal

abbrev pub invariant-loop-item : goal.invariant-loop-item
invariant-loop-item l = l.copied.items ≡ take l.item-index l.items
