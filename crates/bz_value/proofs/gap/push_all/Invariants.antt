use Rattle.bz_value.proofs.Words.{◌++◌, ◌≡◌, all_in, length}
use Rattle.bz_value.proofs.gap.push_all.Given as goal

abbrev pub invariant-loop-line : goal.invariant-loop-line
invariant-loop-line l = l.comments ++ all_in l.rest ≡ l.fn.comments ++ all_in l.gap

abbrev pub decreases-loop-line : goal.decreases-loop-line
decreases-loop-line l = length l.rest
