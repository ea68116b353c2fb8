use Rattle.bz_load.proofs.Words.{◌≡◌, ◌≤◌, drop, length, loads_end, ℕ}
use Rattle.bz_load.proofs.readings.place_after_loads.Given as goal

abbrev pub invariant-loop-place : goal.invariant-loop-place
invariant-loop-place l = record {
  left : (other : ℕ) → loads_end other l.place (drop l.place l.items) ≡ other;
  within : l.place ≤ length l.items;
}

abbrev pub decreases-loop-place : goal.decreases-loop-place
decreases-loop-place l = l.place
