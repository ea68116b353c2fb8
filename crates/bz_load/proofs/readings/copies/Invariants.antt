use Rattle.std.proofs.Common.{◌≡◌, ◌++◌, drop}
use Rattle.bz_load.proofs.readings.copies.Given as goal

abbrev pub invariant-loop-item : goal.invariant-loop-item
invariant-loop-item l = l.made.items ++ drop l.item-index l.items ≡ l.items
