use Rattle.std.proofs.Common.{length, ◌-◌, ◌≤◌, take}
use Rattle.bz_build_format.proofs.Chunking.{IsBegun}
use Rattle.bz_build_format.proofs.chunks.chunks_formatted.Given as goal

abbrev pub invariant-loop-at : goal.invariant-loop-at
invariant-loop-at l = IsBegun l.kind (take l.at l.text) l.out l.last l.ends × (l.at ≤ length l.text)

abbrev pub decreases-loop-at : goal.decreases-loop-at
decreases-loop-at l = length l.text - l.at
