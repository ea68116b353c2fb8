use Rattle.bz_token.proofs.Words.{◌<◌, ◌≡◌, ◌≤◌, get_or, length, move, Some, ℕ}
use Rattle.bz_token.proofs.scan.run.Given as goal

abbrev pub invariant-loop-at : goal.invariant-loop-at
invariant-loop-at l = record {
  above : l.from ≤ l.at;
  within : l.at ≤ length l.text;
  stays : (k : ℕ) → l.from ≤ k → k < l.at → move l.state (get_or l.text k 0) ≡ Some l.state;
}
