-- Sums that a change makes no smaller: of numbers, and of lists of any element.
use Rattle.bz_attribute.proofs.Words.{[], ◌++◌, ◌+◌, ◌∷◌, ◌≤◌, append_total, arith, Bool, by_test, List, map, on_first, on_first_that, on_third, total, ℕ}

-- ---- numbers

pub itself : (a : ℕ) → a ≤ a
itself a = omega arith

pub in_turn : (a b c : ℕ) → a ≤ b → b ≤ c → a ≤ c
in_turn a b c h i = omega arith

pub both_at_most : (a b x y : ℕ) → a ≤ b → x ≤ y → a + x ≤ b + y
both_at_most a b x y h i = omega arith

-- ---- lists

module _ {X : Type 0} (number : X → ℕ) where
  -- a change of each element, and of a list, that makes no sum smaller
  abbrev pub Grows : (X → X) → Type 0
  Grows change = (x : X) → number x ≤ number (change x)

  abbrev pub EachGrows : (List X → List X) → Type 0
  EachGrows change = (xs : List X) → total number xs ≤ total number (change xs)

  pub map_grows : (change : X → X) → Grows change → EachGrows (map change)
  map_grows change g [] = itself 0
  map_grows change g (x ∷ xs) = both_at_most (number x) (number (change x)) (total number xs) (total number (map change xs)) (g x) (map_grows change g xs)

  pub first_grows : (change : X → X) → Grows change → EachGrows (on_first change)
  first_grows change g [] = itself 0
  first_grows change g (x ∷ xs) = let h = g x in omega arith

  pub third_grows : (change : X → X) → Grows change → EachGrows (on_third change)
  third_grows change g (x ∷ y ∷ z ∷ rest) = let h = g z in omega arith
  third_grows change g [] = itself 0
  third_grows change g (x ∷ []) = omega arith
  third_grows change g (x ∷ y ∷ []) = omega arith

  pub append_grows : (ys : List X) → EachGrows (λ xs. xs ++ ys)
  append_grows ys xs = let h = append_total number xs ys in omega arith

  pub first_that_grows : (test : X → Bool) (change : X → X) → Grows change → EachGrows (on_first_that test change)
  first_that_grows test change g [] = itself 0
  first_that_grows test change g (x ∷ xs) =
      let h = first_that_grows test change g xs in
      by_test (λ (ys : List X). total number (x ∷ xs) ≤ total number ys) (test x) (change x ∷ xs) (x ∷ on_first_that test change xs) (first_grows change g (x ∷ xs)) (omega arith)
