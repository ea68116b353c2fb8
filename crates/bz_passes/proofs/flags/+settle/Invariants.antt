use Rattle.bz_passes.proofs.Words.{◌++◌, ◌≡◌, drop, map, take, with_flags}
use Rattle.bz_passes.proofs.flags.+settle.Given as goal

abbrev pub invariant-settle_each-loop-x : goal.invariant-settle_each-loop-x
invariant-settle_each-loop-x l = goal.unvisited-settle_each-loop-x l × (take l.x-index l.x-items ++ map with_flags (drop l.x-index l.x-items) ≡ map with_flags l.fn.exprs)
