-- The states of a gap take just the gaps, and a gap ends at one place.
use Rattle.bz_lex.proofs.Words.{[], ◌&&◌, ◌++◌, ◌+◌, ◌-◌, ◌<◌, ◌∙◌, ◌∷◌, ◌≡◌, ◌≢◌, ◌≤◌, add-one, and_parts, and_then, ap, append-nil, append_assoc, arith, blank, Bool, both_ways, cases_Bool, Comment, comment, eqb, eqb-false, eqb-true, Escape, escaped, escaped_return, EscapeReturn, false, gap_move, gap_state_after, GapState, get_or, inl, inr, is_blank, is_end, IsGap, IsOneLine, last_comment, length, List, ne_eqb, None, nothing, Open, Option, refl, same_Some, Some, Stops, subst, suc, sym, take, take-suc, true, unescaped, zero, ℕ}

abbrev holds : Bool → Option GapState → Bool
holds u None = false
holds u (Some q) = is_end u q

one_line_end : (w : List ℕ) (c : ℕ) → IsOneLine w → c ≢ 10 → IsOneLine (w ++ (c ∷ []))
one_line_end [] c h i = (i, tt)
one_line_end (b ∷ w) c h i = (h.0, one_line_end w c h.1 i)

module _ (n u : Bool) where
  -- what is after a state that ends as a gap may
  abbrev Rest : GapState → List ℕ → Type 0
  Rest Open s = IsGap n u s
  Rest Escape s = IsGap n u (92 ∷ s)
  Rest EscapeReturn s = IsGap n u (92 ∷ 13 ∷ s)
  Rest Comment s = (w : List ℕ) → IsOneLine w → IsGap n u (35 ∷ (w ++ s))

  rest : (q : GapState) (s : List ℕ) → holds u (gap_state_after n q s) ≡ true → Rest q s
  rest Open [] h = nothing refl
  rest Open (c ∷ s) h =
      elim (cases_Bool (is_blank c)) [
        | inl b ↦ blank c s refl b (rest Open s (rw b at h))
        | inr b ↦ elim (cases_Bool (eqb c 92)) [
          | inl e ↦ let i : c ≡ 92 = eqb-true c 92 e in subst (λ (x : ℕ). IsGap n u (x ∷ s)) (sym i) (rest Escape s (rw (b, e) at h))
          | inr e ↦ elim (cases_Bool (eqb c 35)) [
            | inl f ↦ let i : c ≡ 35 = eqb-true c 35 f in subst (λ (x : ℕ). IsGap n u (x ∷ s)) (sym i) (rest Comment s (rw (b, e, f) at h) [] tt)
            | inr f ↦ elim (cases_Bool (n && eqb c 10)) [
              | inl g ↦ let k = and_parts n (eqb c 10) g in unescaped s (ap (λ (x : ℕ). x ∷ s) (eqb-true c 10 k.1)) k.0 (rest Open s (rw (b, e, f, g) at h))
              | inr g ↦ absurd (both_ways false refl (rw (b, e, f, g) at h))
            ]
          ]
        ]
      ]
  rest Escape [] h = absurd (both_ways false refl h)
  rest Escape (c ∷ s) h =
      elim (cases_Bool (eqb c 10)) [
        | inl b ↦ let i : c ≡ 10 = eqb-true c 10 b in escaped s (ap (λ (x : ℕ). 92 ∷ x ∷ s) i) (rest Open s (rw b at h))
        | inr b ↦ elim (cases_Bool (eqb c 13)) [
          | inl e ↦ let i : c ≡ 13 = eqb-true c 13 e in subst (λ (x : ℕ). IsGap n u (92 ∷ x ∷ s)) (sym i) (rest EscapeReturn s (rw (b, e) at h))
          | inr e ↦ absurd (both_ways false refl (rw (b, e) at h))
        ]
      ]
  rest EscapeReturn [] h = absurd (both_ways false refl h)
  rest EscapeReturn (c ∷ s) h =
      elim (cases_Bool (eqb c 10)) [
        | inl b ↦ let i : c ≡ 10 = eqb-true c 10 b in escaped_return s (ap (λ (x : ℕ). 92 ∷ 13 ∷ x ∷ s) i) (rest Open s (rw b at h))
        | inr b ↦ absurd (both_ways false refl (rw b at h))
      ]
  rest Comment [] h = λ w o. last_comment w (ap (λ (t : List ℕ). 35 ∷ t) (append-nil w)) o h
  rest Comment (c ∷ s) h =
      elim (cases_Bool (eqb c 10)) [
        | inl b ↦ let i : c ≡ 10 = eqb-true c 10 b in elim (cases_Bool n) [
          | inl m ↦ λ w o. comment w s (ap (λ (x : ℕ). 35 ∷ (w ++ (x ∷ s))) i) o m (rest Open s (rw (b, m) at h))
          | inr m ↦ absurd (both_ways false refl (rw (b, m) at h))
        ]
        | inr b ↦ λ w o. subst (λ (t : List ℕ). IsGap n u (35 ∷ t)) (append_assoc w (c ∷ []) s) (rest Comment s (rw b at h) (w ++ (c ∷ [])) (one_line_end w c o (eqb-false c 10 b)))
      ]

  in_comment : (w r : List ℕ) → IsOneLine w → gap_state_after n Comment (w ++ r) ≡ gap_state_after n Comment r
  in_comment [] r h = refl
  in_comment (c ∷ w) r h = rw (ne_eqb c 10 h.0) (in_comment w r h.1)

  taken : (s : List ℕ) → IsGap n u s → holds u (gap_state_after n Open s) ≡ true
  taken s (nothing e) = rw e refl
  taken s (blank c r e b g) = rw (e, b) (taken r g)
  taken s (escaped r e g) = rw e (taken r g)
  taken s (escaped_return r e g) = rw e (taken r g)
  taken s (unescaped r e i g) = rw (e, i) (taken r g)
  taken s (comment w r e o i g) = rw (e, in_comment w (10 ∷ r) o, i) (taken r g)
  taken s (last_comment w e o i) = rw (e, sym (append-nil w), in_comment w [] o) i

some_end : (u : Bool) (o : Option GapState) → holds u o ≡ true → (q : GapState) × (o ≡ Some q) × (is_end u q ≡ true)
some_end u None h = absurd (both_ways false refl h)
some_end u (Some q) h = (q, refl, h)

-- a gap ends in a state where it may end
pub gap_after : (n u : Bool) (s : List ℕ) → IsGap n u s → (q : GapState) × (gap_state_after n Open s ≡ Some q) × (is_end u q ≡ true)
gap_after n u s g = some_end u (gap_state_after n Open s) (taken n u s g)

-- what ends in such a state is a gap
pub gap_from : (n u : Bool) (q : GapState) (s : List ℕ) → gap_state_after n Open s ≡ Some q → is_end u q ≡ true → IsGap n u s
gap_from n u q s e h = rest n u Open s (rw e h)

some_next : (o : Option GapState) (f : GapState → Option GapState) (r : GapState) → and_then o f ≡ Some r → (q : GapState) × (o ≡ Some q) × (f q ≡ Some r)
some_next None f r e = absurd cc
some_next (Some q) f r e = (q, refl, e)

-- Two fronts of one text with which no gap goes on are one.
pub one_stop : (n : Bool) (p q r : GapState) (a b c d : List ℕ) → gap_state_after n p a ≡ Some q → Stops n q b → gap_state_after n p c ≡ Some r → Stops n r d → a ++ b ≡ c ++ d → (a ≡ c) × (b ≡ d) × (q ≡ r)
one_stop n p q r [] b [] d e h f k i = (refl, i, same_Some q r (sym e ∙ f))
one_stop n p q r [] b (x ∷ c) d e h f k i =
    let w = some_next (gap_move n p x) (λ s. gap_state_after n s c) r f in
    let j : p ≡ q = same_Some p q e in
    let stuck : gap_move n p x ≡ None = rw j (subst (Stops n q) i h) in
    absurd (let z : None ≡ Some w.0 = sym stuck ∙ w.1 in cc)
one_stop n p q r (x ∷ a) b [] d e h f k i =
    let w = some_next (gap_move n p x) (λ s. gap_state_after n s a) q e in
    let j : p ≡ r = same_Some p r f in
    let stuck : gap_move n p x ≡ None = rw j (subst (Stops n r) (sym i) k) in
    absurd (let z : None ≡ Some w.0 = sym stuck ∙ w.1 in cc)
one_stop n p q r (x ∷ a) b (y ∷ c) d e h f k i =
    let w = some_next (gap_move n p x) (λ s. gap_state_after n s a) q e in
    let same : x ≡ y = cc in
    let v = some_next (gap_move n p y) (λ s. gap_state_after n s c) r f in
    let to : w.0 ≡ v.0 = same_Some w.0 v.0 (sym w.1 ∙ ap (gap_move n p) same ∙ v.1) in
    let o = one_stop n w.0 q r a b c d w.2 h (subst (λ s. gap_state_after n s c ≡ Some r) (sym to) v.2) k cc in
    (rw (same, o.0) refl, o.1, o.2)

through : (o : Option GapState) (f g h : GapState → Option GapState) → ((q : GapState) → f q ≡ and_then (g q) h) → and_then o f ≡ and_then (and_then o g) h
through None f g h e = refl
through (Some q) f g h e = e q

pub after-append : (n : Bool) (p : GapState) (a b : List ℕ) → gap_state_after n p (a ++ b) ≡ and_then (gap_state_after n p a) (λ q. gap_state_after n q b)
after-append n p [] b = refl
after-append n p (c ∷ a) b = through (gap_move n p c) (λ q. gap_state_after n q (a ++ b)) (λ q. gap_state_after n q a) (λ q. gap_state_after n q b) (λ q. after-append n q a b)

-- one byte more
pub after_more : (n : Bool) (p q r : GapState) (i : ℕ) (s : List ℕ) → i < length s → gap_state_after n p (take i s) ≡ Some q → gap_move n q (get_or s i 0) ≡ Some r → gap_state_after n p (take (i + 1) s) ≡ Some r
after_more n p q r i s lt e f = rw (add-one, take-suc s i 0 lt, after-append n p (take i s) (get_or s i 0 ∷ []), e, f) refl

run_more : (n : Bool) (p q : GapState) (i m : ℕ) (s : List ℕ) → i + m ≤ length s → ((k : ℕ) → i ≤ k → k < i + m → gap_move n q (get_or s k 0) ≡ Some q) → gap_state_after n p (take i s) ≡ Some q → gap_state_after n p (take (i + m) s) ≡ Some q
run_more n p q i zero s le h e = let z : i + 0 ≡ i = omega arith in ap (λ (k : ℕ). gap_state_after n p (take k s)) z ∙ e
run_more n p q i (suc m) s le h e =
    let z : i + suc m ≡ (i + m) + 1 = omega arith in
    ap (λ (k : ℕ). gap_state_after n p (take k s)) z ∙ after_more n p q q (i + m) s (omega arith) (run_more n p q i m s (omega arith) (λ k a b. h k a (omega arith)) e) (h (i + m) (omega arith) (omega arith))

-- a run of bytes with which the state stays
pub after_run : (n : Bool) (p q : GapState) (i j : ℕ) (s : List ℕ) → i ≤ j → j ≤ length s → ((k : ℕ) → i ≤ k → k < j → gap_move n q (get_or s k 0) ≡ Some q) → gap_state_after n p (take i s) ≡ Some q → gap_state_after n p (take j s) ≡ Some q
after_run n p q i j s above within h e =
    let z : i + (j - i) ≡ j = omega arith in
    ap (λ (k : ℕ). gap_state_after n p (take k s)) (sym z) ∙ run_more n p q i (j - i) s (omega (arith, z)) (λ k a b. h k a (omega (arith, z))) e
