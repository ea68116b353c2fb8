-- What holds of each row of a table holds of what is found in it.
use Rattle.bz_token.proofs.Words.{[], ◌&&◌, ◌∷◌, ◌≡◌, among, and_parts, Bool, both_ways, bytes_eq, cases_Bool, eqb, eqb-true, false, in_table, inl, inr, is_none, List, None, not, not-true, Option, or_cases, refl, Some, subst, true, ℕ}
use Rattle.std.proofs.lemmas.Slice.Eq.{bytes_eq-Decides}

-- a test that holds of each of some things
abbrev pub every : {X : Type 0} → (X → Bool) → List X → Bool
every p [] = true
every p (x ∷ xs) = p x && every p xs

pub one_of : (p : ℕ → Bool) (s : List ℕ) → every p s ≡ true → (b : ℕ) → among b s ≡ true → p b ≡ true
one_of p [] h b k = absurd (both_ways false refl k)
one_of p (c ∷ s) h b k =
    let w = and_parts (p c) (every p s) h in
    elim (or_cases (eqb b c) (among b s) k) [
      | inl e ↦ rw (eqb-true b c e) w.0
      | inr l ↦ one_of p s w.1 b l
    ]

-- what fails of each of some bytes fails of all that it holds of
pub none_of : (p : ℕ → Bool) (s : List ℕ) → every (λ c. not (p c)) s ≡ true → (b : ℕ) → p b ≡ true → among b s ≡ false
none_of p s h b k =
    elim (cases_Bool (among b s)) [
      | inl l ↦ absurd (both_ways (p b) (not-true (p b) (one_of (λ c. not (p c)) s h b l)) k)
      | inr l ↦ l
    ]

pub is_not : (p : ℕ → Bool) (n : ℕ) → p n ≡ false → (b : ℕ) → p b ≡ true → eqb b n ≡ false
is_not p n f b h =
    elim (cases_Bool (eqb b n)) [
      | inl e ↦ absurd (both_ways (p n) f (subst (λ (x : ℕ). p x ≡ true) (eqb-true b n e) h))
      | inr e ↦ e
    ]

pub one_text : (p : List ℕ → Bool) (ts : List (List ℕ)) → every p ts ≡ true → (s : List ℕ) → in_table s ts ≡ true → p s ≡ true
one_text p [] h s k = absurd (both_ways false refl k)
one_text p (t ∷ ts) h s k =
    let w = and_parts (p t) (every p ts) h in
    elim (or_cases (bytes_eq s t) (in_table s ts) k) [
      | inl e ↦ rw ((bytes_eq-Decides s t).0 e) w.0
      | inr l ↦ one_text p ts w.1 s l
    ]

pub is_none_at : {X : Type 0} (o : Option X) → is_none o ≡ true → o ≡ None
is_none_at None h = refl
is_none_at (Some x) h = absurd (both_ways false refl h)
