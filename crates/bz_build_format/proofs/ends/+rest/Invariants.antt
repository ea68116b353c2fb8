use Rattle.bz_build_format.proofs.Words.{◌≡◌, at_side, joined_at, spelled_parts}
use Rattle.bz_build_format.proofs.ends.+rest.Given as goal

-- the text has the parts so far at this side
abbrev pub invariant-same-loop-passed : goal.invariant-same-loop-passed
invariant-same-loop-passed l = l.text ≡ joined_at l.side (spelled_parts (at_side l.side l.passed l.parts)) l.rest
