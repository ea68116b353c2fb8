use Rattle.bz_load.proofs.Words.{◌++◌, ◌≡◌, comments_above, drop}
use Rattle.bz_load.proofs.gathering.push_above.Given as goal

abbrev pub invariant-loop-x : goal.invariant-loop-x
invariant-loop-x l = l.before ++ comments_above (drop l.x-index l.exprs) ≡ l.fn.before ++ comments_above l.exprs
