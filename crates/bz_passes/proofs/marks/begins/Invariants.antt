use Rattle.bz_passes.proofs.Words.{◌≡◌, begins_with, length, map, to_ascii_lowercase}
use Rattle.bz_passes.proofs.marks.begins.Given as goal

abbrev pub invariant-loop-left : goal.invariant-loop-left
invariant-loop-left l = begins_with l.left (map to_ascii_lowercase l.rest) ≡ begins_with l.fn.mark (map to_ascii_lowercase l.fn.text)

abbrev pub decreases-loop-left : goal.decreases-loop-left
decreases-loop-left l = length l.left
