use Rattle.bz_passes.proofs.Words.{◌≤◌, AreLoads, drop, length}
use Rattle.bz_passes.proofs.borders.start_of_run.Given as goal

abbrev pub invariant-loop-start : goal.invariant-loop-start
invariant-loop-start l = (l.start ≤ length l.items) × AreLoads (drop l.start l.items)

abbrev pub decreases-loop-start : goal.decreases-loop-start
decreases-loop-start l = l.start
