use Rattle.std.proofs.Common.{◌≤◌, ◌-◌, length}
use Rattle.bz_passes.proofs.borders.end_of_run.Given as goal

abbrev pub invariant-loop-end : goal.invariant-loop-end
invariant-loop-end l = (l.at ≤ l.end) × (l.end ≤ length l.items)

abbrev pub decreases-loop-end : goal.decreases-loop-end
decreases-loop-end l = length l.items - l.end
