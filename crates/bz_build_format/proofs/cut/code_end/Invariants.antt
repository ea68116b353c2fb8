use Rattle.std.proofs.Common.{length, ◌≤◌}
use Rattle.bz_build_format.proofs.cut.code_end.Given as goal

abbrev pub invariant-loop-left : goal.invariant-loop-left
invariant-loop-left l = length l.left ≤ length l.text

abbrev pub decreases-loop-left : goal.decreases-loop-left
decreases-loop-left l = length l.left
