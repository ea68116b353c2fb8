use Rattle.std.proofs.Common.{length, ◌-◌}
use Rattle.bz_build_format.proofs.cut.chunk_end.Given as goal

abbrev pub decreases-loop-at : goal.decreases-loop-at
decreases-loop-at l = length l.text - l.at
