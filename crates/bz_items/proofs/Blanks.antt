use Rattle.std.proofs.Common.{ℕ, ◌≡◌, ◌≤◌, ◌∷◌, suc, List, take, replicate, ap}
use Rattle.std.proofs.lemmas.List.{take-replicate}
use Rattle.bz_items.specs.Characters.{space}

-- the first of many spaces
pub first_spaces : (count : ℕ) → count ≤ 255 → take count (replicate 255 space) ≡ replicate count space
first_spaces count within = take-replicate count 255 space within

-- the first byte, and some of the others
pub first_bytes : (count total byte : ℕ) (others : List ℕ) → total ≡ suc count → take total (byte ∷ others) ≡ byte ∷ take count others
first_bytes count total byte others is = ap (λ (n : ℕ). take n (byte ∷ others)) is
