use Rattle.bz_streams.proofs.Imported.{◌++◌, ◌≡◌, Bytes, drop, take, with_controls, ℕ}
use Rattle.bz_streams.proofs.controls.next_control.Given as goal

-- no control character begins before this place
abbrev pub invariant-loop-at : goal.invariant-loop-at
invariant-loop-at l = (shown : ℕ → Bytes) → with_controls shown l.text ≡ take l.at l.text ++ with_controls shown (drop l.at l.text)
