-- The spaces and tabs at the end of a gap, and indents by their lengths.
use Rattle.bz_grammar.proofs.Words.{[], ◌&&◌, ◌-◌, ◌<◌, ◌∙◌, ◌∷◌, ◌≡◌, ◌≤◌, and_parts, ap, are_indents, arith, Bool, both_ways, bytes_eq, cases_Bool, cond-false, cond-true, drop, eq-eqb, eqb-true, false, get_or, indent, inl, inr, is_deeper, is_indent, length, List, nat_eq, refl, suc, sym, take, true, zero, ℕ}

pub all_blank : (s : List ℕ) → are_indents s ≡ true → s ≡ indent s
all_blank [] h = refl
all_blank (b ∷ s) h = sym (cond-true (are_indents (b ∷ s)) (b ∷ s) (indent s) h)

blank_at : (s : List ℕ) (n : ℕ) → n < length s → are_indents s ≡ true → is_indent (get_or s n 0) ≡ true
blank_at [] n lt h = absurd (omega (arith, lt))
blank_at (b ∷ s) zero lt h = (and_parts (is_indent b) (are_indents s) h).0
blank_at (b ∷ s) (suc n) lt h = blank_at s n (omega (arith, lt)) (and_parts (is_indent b) (are_indents s) h).1

-- blanks after what is none
blanks_after : (s : List ℕ) (n : ℕ) → n < length s → is_indent (get_or s n 0) ≡ false → are_indents (drop (suc n) s) ≡ true → drop (suc n) s ≡ indent s
blanks_after [] n lt h g = absurd (omega (arith, lt))
blanks_after (b ∷ s) zero lt h g = all_blank s g ∙ sym (cond-false (are_indents (b ∷ s)) (b ∷ s) (indent s) (ap (λ (t : Bool). t && are_indents s) h))
blanks_after (b ∷ s) (suc n) lt h g =
    elim (cases_Bool (are_indents (b ∷ s))) [
      | inl e ↦ absurd (both_ways (is_indent (get_or s n 0)) h (blank_at s n (omega (arith, lt)) (and_parts (is_indent b) (are_indents s) e).1))
      | inr e ↦ blanks_after s n (omega (arith, lt)) h g ∙ sym (cond-false (are_indents (b ∷ s)) (b ∷ s) (indent s) e)
    ]

not_blank : (b : ℕ) → (b ≡ 32 → ⊥) → (b ≡ 9 → ⊥) → is_indent b ≡ false
not_blank b h g =
    elim (cases_Bool (nat_eq b 32)) [
      | inl e ↦ absurd (h (eqb-true b 32 e))
      | inr e ↦ elim (cases_Bool (nat_eq b 9)) [
        | inl f ↦ absurd (g (eqb-true b 9 f))
        | inr f ↦ rw (e, f) refl
      ]
    ]

pub blanks_from : (s : List ℕ) (at : ℕ) → 1 ≤ at → at ≤ length s → (get_or s (at - 1) 0 ≡ 32 → ⊥) → (get_or s (at - 1) 0 ≡ 9 → ⊥) → are_indents (drop at s) ≡ true → drop at s ≡ indent s
blanks_from s at pos le h g e =
    let up : suc (at - 1) ≡ at = omega (arith, pos) in
    ap (λ (n : ℕ). drop n s) (sym up) ∙ blanks_after s (at - 1) (omega (arith, pos, le)) (not_blank (get_or s (at - 1) 0) h g) (ap (λ (n : ℕ). are_indents (drop n s)) up ∙ e)

pub blanks_whole : (s : List ℕ) (at : ℕ) → at ≤ 0 → are_indents (drop at s) ≡ true → s ≡ indent s
blanks_whole s zero le e = all_blank s e
blanks_whole s (suc n) le e = absurd (omega (arith, le))

-- ---- indents by their lengths

eq_back : (b c : ℕ) → nat_eq c b ≡ nat_eq b c
eq_back b c =
    elim (cases_Bool (nat_eq b c)) [
      | inl e ↦ eq-eqb c b (sym (eqb-true b c e)) ∙ sym e
      | inr e ↦ elim (cases_Bool (nat_eq c b)) [
        | inl f ↦ absurd (both_ways (nat_eq b c) e (eq-eqb b c (sym (eqb-true c b f))))
        | inr f ↦ f ∙ sym e
      ]
    ]

pub deeper_by_front : (i j : List ℕ) → length i < length j → bytes_eq (take (length i) j) i ≡ is_deeper i j
deeper_by_front [] [] lt = absurd (omega (arith, lt))
deeper_by_front [] (c ∷ j) lt = refl
deeper_by_front (b ∷ i) [] lt = absurd (omega (arith, lt))
deeper_by_front (b ∷ i) (c ∷ j) lt = ap (λ (t : Bool). t && bytes_eq (take (length i) j) i) (eq_back b c) ∙ ap (λ (t : Bool). nat_eq b c && t) (deeper_by_front i j (omega (arith, lt)))

and_no : (t : Bool) → t && false ≡ false
and_no true = refl
and_no false = refl

pub no_deeper : (i j : List ℕ) → length j ≤ length i → is_deeper i j ≡ false
no_deeper [] [] le = refl
no_deeper [] (c ∷ j) le = absurd (omega (arith, le))
no_deeper (b ∷ i) [] le = refl
no_deeper (b ∷ i) (c ∷ j) le = ap (λ (t : Bool). nat_eq b c && t) (no_deeper i j (omega (arith, le))) ∙ and_no (nat_eq b c)
