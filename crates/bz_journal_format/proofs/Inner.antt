-- Reading parts.
use Rattle.bz_journal_format.proofs.Words.{◌-◌, ◌<◌, ◌≡◌, arith, held_at, List, node_at, nodes_at, refl, suc, zero, ℕ}

pub one_less : (d : ℕ) (s : List ℕ) → 0 < d → nodes_at d s ≡ node_at (held_at (d - 1)) s
unfolding nodes_at
one_less zero s h = absurd (omega arith)
one_less (suc d) s h = let e : suc d - 1 ≡ d = omega arith in rw e refl
