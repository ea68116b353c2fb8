-- A text around its first colon.
use Rattle.bz_label.proofs.Words.{[], ◌++◌, ◌∙◌, ◌∷◌, ◌≡◌, after_colon, ap, before_colon, Bytes, cases_Bool, eqb-true, false, has_colon, inl, inr, is_colon, or_parts, refl, sym, true, true≢false}

-- what is before the colon, and after it
abbrev pub IsCutIn : Bytes → Bytes → Bytes → Type 0
IsCutIn text front rest = (has_colon text ≡ true) × (before_colon text ≡ front) × (after_colon text ≡ rest)

pub cut_in : (front rest : Bytes) → has_colon front ≡ false → IsCutIn (front ++ 58 ∷ rest) front rest
cut_in [] rest h = (refl, refl, refl)
cut_in (c ∷ front) rest h =
    let p : (is_colon c ≡ false) × (has_colon front ≡ false) = or_parts (is_colon c) (has_colon front) h in
    let more = cut_in front rest p.1 in
    rw p.0 (more.0, ap (λ z. c ∷ z) more.1, more.2)

pub cut_at_colon : (text front rest : Bytes) → text ≡ front ++ 58 ∷ rest → has_colon front ≡ false → (text ≡ front ++ 58 ∷ rest) × IsCutIn text front rest
cut_at_colon text front rest e h = let all = cut_in front rest h in (e, (ap has_colon e ∙ all.0, ap before_colon e ∙ all.1, ap after_colon e ∙ all.2))

pub halves : (s : Bytes) → has_colon s ≡ true → s ≡ before_colon s ++ 58 ∷ after_colon s
halves [] h = absurd (true≢false (sym h))
halves (c ∷ s) h = elim (cases_Bool (is_colon c)) [
  | inl w ↦ rw w (ap (λ z. z ∷ s) (eqb-true c 58 w))
  | inr w ↦ let h' : has_colon s ≡ true = rw w at h in rw w (ap (λ z. c ∷ z) (halves s h'))
]

pub no_colon : (s : Bytes) → has_colon s ≡ false → after_colon s ≡ []
no_colon [] h = refl
no_colon (c ∷ s) h = let p : (is_colon c ≡ false) × (has_colon s ≡ false) = or_parts (is_colon c) (has_colon s) h in rw p.0 (no_colon s p.1)
