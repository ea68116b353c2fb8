use Rattle.bz_load.proofs.Words.{◌++◌, ◌≡◌, drop, variables}
use Rattle.bz_load.proofs.usages.variables.Given as goal

abbrev pub invariant-loop-item : goal.invariant-loop-item
invariant-loop-item l = l.made ++ variables l.fn.current l.fn.usages (drop l.item-index l.items) ≡ variables l.fn.current l.fn.usages l.items
