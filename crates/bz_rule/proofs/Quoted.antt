-- A text between a first and a last quote mark.
use Rattle.bz_rule.proofs.Words.{[], ◌++◌, ◌-◌, ◌∷◌, ◌≡◌, ◌≤◌, arith, bytes_eq, drop, get_or, length, List, nat_eq, nat_tests, sym, take, true, ℕ}

-- the last byte decides whether a text is all but its last byte, and then q
ends : (q x : ℕ) (xs : List ℕ) → nat_eq (get_or (x ∷ xs) (length xs) 0) q ≡ bytes_eq (x ∷ xs) (take (length xs) (x ∷ xs) ++ q ∷ [])
ends q x [] = grind (arith, nat_tests)
ends q x (y ∷ ys) = let same : nat_eq x x ≡ true = grind (arith, nat_tests) in rw same (ends q y ys)

pub quoted : (q : ℕ) (text : List ℕ) → 2 ≤ length text → get_or text 0 0 ≡ q
    → nat_eq (get_or text (length text - 1) 0) q ≡ bytes_eq text (q ∷ take (length text - 2) (drop 1 text) ++ q ∷ [])
quoted q [] long first = absurd (omega arith)
quoted q (x ∷ []) long first = absurd (omega arith)
quoted q (x ∷ y ∷ ys) long first =
    let one : length (x ∷ y ∷ ys) - 1 ≡ length (y ∷ ys) = omega arith in
    let two : length (x ∷ y ∷ ys) - 2 ≡ length ys = omega arith in
    let same : nat_eq x x ≡ true = grind (arith, nat_tests) in
    rw (one, two, sym first, same) (ends x y ys)
