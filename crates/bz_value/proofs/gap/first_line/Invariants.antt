use Rattle.bz_value.proofs.Words.{◌-◌, ◌≡◌, ◌≤◌, length, lines_from, lines_of}
use Rattle.bz_value.proofs.gap.first_line.Given as goal

abbrev pub invariant-loop-rest : goal.invariant-loop-rest
invariant-loop-rest l = record {
  within : length l.rest ≤ length l.indented;
  inside : length l.indented ≤ length l.gap;
  lines : lines_from (length l.indented - length l.rest) l.rest ≡ lines_of l.gap;
}

abbrev pub decreases-loop-rest : goal.decreases-loop-rest
decreases-loop-rest l = length l.rest
