-- Fronts of a text, and machines on them.
use Rattle.bz_token.proofs.Words.{[], ◌++◌, ◌∷◌, ◌≡◌, ◌≤◌, ◌⊎◌, after, and_next, ap, arith, inl, inr, length, List, None, Option, refl, Some, subst, sym, ℕ}
use Rattle.std.proofs.lemmas.List.{append_cancel_left}

-- of two fronts the first is no longer, or it is the second and more
pub longer : (u s t r : List ℕ) → u ++ s ≡ t ++ r → (length u ≤ length t) ⊎ ((b : ℕ) × (v : List ℕ) × (u ≡ t ++ (b ∷ v)) × (r ≡ b ∷ (v ++ s)))
longer [] s t r e = inl (omega arith)
longer (b ∷ v) s [] r e = inr (b, v, refl, sym e)
longer (b ∷ v) s (c ∷ t) r e =
    let i : b ≡ c = cc in
    let j : v ++ s ≡ t ++ r = cc in
    elim (longer v s t r j) [
      | inl h ↦ inl (omega arith)
      | inr w ↦ inr (w.0, w.1, rw i (ap (λ (x : List ℕ). c ∷ x) w.2), w.3)
    ]

pub same_front : (t r u s : List ℕ) → t ++ r ≡ u ++ s → length t ≡ length u → t ≡ u
same_front [] r [] s e h = refl
same_front [] r (c ∷ u) s e h = absurd (omega arith)
same_front (b ∷ t) r [] s e h = absurd (omega arith)
same_front (b ∷ t) r (c ∷ u) s e h =
    let i : b ≡ c = cc in
    let j : t ++ r ≡ u ++ s = cc in
    rw i (ap (λ (x : List ℕ). c ∷ x) (same_front t r u s j (omega arith)))

pub some_next : {A B : Type 0} (o : Option A) (f : A → Option B) (y : B) → and_next o f ≡ Some y → (x : A) × (o ≡ Some x) × (f x ≡ Some y)
some_next None f y e = absurd cc
some_next (Some x) f y e = (x, refl, e)

pub after_append : {S : Type 0} (step : S → ℕ → Option S) (q r : S) (a b : List ℕ) → after step q a ≡ Some r → after step q (a ++ b) ≡ after step r b
after_append step q r [] b e = let i : q ≡ r = cc in rw i refl
after_append step q r (c ∷ a) b e =
    let w = some_next (step q c) (λ p. after step p a) r e in
    rw w.1 (after_append step (w.0) r a b w.2)

pub rest_same : (t r u s : List ℕ) → t ++ r ≡ u ++ s → t ≡ u → r ≡ s
rest_same t r u s e i = append_cancel_left u r s (subst (λ (x : List ℕ). x ++ r ≡ u ++ s) i e)
