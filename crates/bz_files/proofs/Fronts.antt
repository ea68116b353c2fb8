-- The front of a list.
use Rattle.bz_files.proofs.Words.{[], ◌++◌, ◌+◌, ◌||◌, ◌∙◌, ◌∷◌, ◌≡◌, ap, arith, Bool, length, length-take, List, list_any, map, refl, sym, take, take_all, ℕ}

-- what was read after nothing, up to one byte more than a list has, shows whether the bytes are that list
pub shows : (held bytes start items read : List ℕ) → items ≡ start ++ take (length held + 1) bytes → start ≡ [] → read ≡ items
    → (read ≡ held → bytes ≡ held) × (bytes ≡ held → read ≡ held)
shows held bytes start items read is empty same = (
  (λ equal. let front : take (length held + 1) bytes ≡ held = sym front_read ∙ equal in
      sym (take_all (length held + 1) bytes (omega (arith, ap length front, length-take (length held + 1) bytes))) ∙ front),
  λ equal. front_read ∙ take_all (length held + 1) bytes (omega (arith, ap length equal)) ∙ equal,
)
  where
    front_read : read ≡ take (length held + 1) bytes
    front_read = same ∙ is ∙ ap (λ (s : List ℕ). s ++ take (length held + 1) bytes) empty

-- a test of what is made of the items
pub any_map : {A B : Type 0} (f : A → B) (test : B → Bool) (xs : List A) → list_any test (map f xs) ≡ list_any (λ x. test (f x)) xs
any_map f test [] = refl
any_map f test (x ∷ xs) = ap (λ (b : Bool). test (f x) || b) (any_map f test xs)
