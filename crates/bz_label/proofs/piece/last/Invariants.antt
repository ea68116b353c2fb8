use Rattle.bz_label.proofs.Words.{◌<◌, ◌≡◌, ◌≤◌, get_or, is_slash, length, not, true, ℕ}
use Rattle.bz_label.proofs.piece.last.Given as goal

abbrev pub invariant-loop-start : goal.invariant-loop-start
invariant-loop-start l = (l.start ≤ length l.text) × ((k : ℕ) → l.start ≤ k → k < length l.text → not (is_slash (get_or l.text k 0)) ≡ true)

abbrev pub decreases-loop-start : goal.decreases-loop-start
decreases-loop-start l = l.start
