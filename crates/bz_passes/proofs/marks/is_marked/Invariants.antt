use Rattle.bz_passes.proofs.Words.{◌≡◌, length, map, stands_in, to_ascii_lowercase}
use Rattle.bz_passes.proofs.marks.is_marked.Given as goal

abbrev pub invariant-loop-rest : goal.invariant-loop-rest
invariant-loop-rest l = stands_in l.mark (map to_ascii_lowercase l.rest) ≡ stands_in l.fn.mark (map to_ascii_lowercase l.fn.comment)

abbrev pub decreases-loop-rest : goal.decreases-loop-rest
decreases-loop-rest l = length l.rest
