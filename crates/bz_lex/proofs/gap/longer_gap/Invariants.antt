use Rattle.bz_lex.proofs.Words.{◌-◌, ◌≡◌, ◌≤◌, gap_state_after, length, Open, Some, take}
use Rattle.bz_lex.proofs.gap.longer_gap.Given as goal

abbrev pub invariant-bytes : goal.invariant-bytes
invariant-bytes l = record {
  taken : gap_state_after l.newlines Open (take l.at l.text) ≡ Some l.state;
  within : l.at ≤ length l.text;
}

abbrev pub decreases-bytes : goal.decreases-bytes
decreases-bytes l = length l.text - l.at
