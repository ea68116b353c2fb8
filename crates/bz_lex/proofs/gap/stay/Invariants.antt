use Rattle.bz_lex.proofs.Words.{◌<◌, ◌≡◌, ◌≤◌, Bool, gap_move, get_or, length, Some, ℕ}
use Rattle.bz_lex.proofs.gap.stay.Given as goal

abbrev pub invariant-loop-at : goal.invariant-loop-at
invariant-loop-at l = record {
  above : l.from ≤ l.at;
  within : l.at ≤ length l.text;
  stays : (newlines : Bool) (k : ℕ) → l.from ≤ k → k < l.at → gap_move newlines l.state (get_or l.text k 0) ≡ Some l.state;
}
