use Rattle.bz_value.proofs.Words.{◌≡◌, has_newline, length}
use Rattle.bz_value.proofs.gap.has_newline.Given as goal

abbrev pub invariant-loop-line : goal.invariant-loop-line
invariant-loop-line l = has_newline l.rest ≡ has_newline l.gap

abbrev pub decreases-loop-line : goal.decreases-loop-line
decreases-loop-line l = length l.rest
