-- The test for an empty text, as the length says it.
use Rattle.bz_label.proofs.Words.{[], ◌==◌, ◌∷◌, ◌≡◌, ap, arith, is_empty, is_present, length, List, nat_tests, not, refl, ℕ}

pub empty_by_length : (text : List ℕ) → (length text == 0) ≡ is_empty text
empty_by_length [] = refl
empty_by_length (x ∷ xs) = grind (arith, nat_tests)

pub present_by_length : (text : List ℕ) → not (length text == 0) ≡ is_present text
present_by_length text = ap not (empty_by_length text)
