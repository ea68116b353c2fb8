-- The machine takes the strings.
use Rattle.bz_token.proofs.Words.{[], ◌++◌, ◌<◌, ◌||◌, ◌∙◌, ◌∷◌, ◌≡◌, ◌⊎◌, after, append_assoc, arith, Bool, both_ways, cases_Bool, Class as v, Closed, Double, Empty, eqb, eqb-true, false, inl, inr, is_prefix, is_quote, IsLong, IsShort, IsString, List, Long, long_end, long_plain, long_taken, LongOne, LongTwo, move, None, none-some, Opened, Option, or_cases, or_parts, prefixes, Quote, quote_byte, reads, refl, replicate, Short, short_end, short_line, short_plain, short_taken, ShortReturn, ShortTaken, Single, single, Some, Start, State, subst, suc, triple, true, zero, ℕ}
use Rattle.bz_token.proofs.{Fronts.after_append, Tables.one_text}

pub quote_of : (m : ℕ) → is_quote m ≡ true → (q : Quote) × (m ≡ quote_byte q)
quote_of m h = elim (or_cases (eqb m 34) (eqb m 39) h) [ inl e ↦ (Double, eqb-true m 34 e) | inr e ↦ (Single, eqb-true m 39 e) ]

pub quote_is : (q : Quote) → is_quote (quote_byte q) ≡ true
quote_is Single = refl
quote_is Double = refl

pub itself : (q : Quote) → eqb (quote_byte q) (quote_byte q) ≡ true
itself Single = refl
itself Double = refl

-- a backslash and a newline are no mark
no_backslash : (q : Quote) → eqb 92 (quote_byte q) ≡ false
no_backslash Single = refl
no_backslash Double = refl

no_newline : (q : Quote) → eqb 10 (quote_byte q) ≡ false
no_newline Single = refl
no_newline Double = refl

-- what may be after a backslash and a carriage return, if no newline does
returned : (q : Quote) (t : List ℕ) → after move (Short q) t ≡ Some Closed → after move (ShortReturn q) t ≡ Some Closed
returned q [] h = absurd cc
returned q (b ∷ t) h =
    elim (cases_Bool (eqb b 10)) [
      | inl e ↦
          let i : b ≡ 10 = eqb-true b 10 e in
          let n : None ≡ Some Closed = rw (no_newline q) at (rw i at h) in
          absurd (none-some Closed n)
      | inr e ↦ rw e (rw e at h)
    ]

after_backslash : (q : Quote) (b : ℕ) (t : List ℕ) → after move (Short q) t ≡ Some Closed → after move (ShortTaken q) (b ∷ t) ≡ Some Closed
after_backslash q b t h = elim (cases_Bool (eqb b 13)) [ inl e ↦ rw e (returned q t h) | inr e ↦ rw e h ]

shorts : (q : Quote) (s : List ℕ) → IsShort (quote_byte q) s → after move (Short q) (s ++ (quote_byte q ∷ [])) ≡ Some Closed
shorts q s short_end = rw (itself q) refl
shorts q s (short_plain {b = b} {s = u} n h) =
    let x = or_parts (eqb b (quote_byte q)) (eqb b 10 || (eqb b 92 || false)) n in
    let y = or_parts (eqb b 10) (eqb b 92 || false) x.1 in
    let z = or_parts (eqb b 92) false y.1 in
    rw (x.0, z.0, y.0) (shorts q u h)
shorts q s (short_taken {b = b} {s = u} h) = rw (no_backslash q) (after_backslash q b (u ++ (quote_byte q ∷ [])) (shorts q u h))
shorts q s (short_line {s = u} h) = rw (no_backslash q) (shorts q u h)

-- a string with pieces is read after its first mark as further on
opened_as : (q : Quote) (b : ℕ) (t : List ℕ) → eqb b (quote_byte q) ≡ false → after move (Short q) (b ∷ t) ≡ Some Closed → after move (Opened q) (b ∷ t) ≡ Some Closed
opened_as q b t e h = rw e (rw e at h)

openeds : (q : Quote) (s : List ℕ) → IsShort (quote_byte q) s → (after move (Opened q) (s ++ (quote_byte q ∷ [])) ≡ Some Closed) ⊎ (s ≡ [])
openeds q s short_end = inr refl
openeds q s (short_plain {b = b} {s = u} n h) =
    let x = or_parts (eqb b (quote_byte q)) (eqb b 10 || (eqb b 92 || false)) n in
    inl (opened_as q b (u ++ (quote_byte q ∷ [])) x.0 (shorts q (b ∷ u) (short_plain n h)))
openeds q s (short_taken {b = b} {s = u} h) = inl (opened_as q 92 (b ∷ (u ++ (quote_byte q ∷ []))) (no_backslash q) (shorts q s (short_taken h)))
openeds q s (short_line {s = u} h) = inl (opened_as q 92 (13 ∷ 10 ∷ (u ++ (quote_byte q ∷ []))) (no_backslash q) (shorts q s (short_line h)))

abbrev pub three : Quote → List ℕ
three q = quote_byte q ∷ quote_byte q ∷ quote_byte q ∷ []

closes : (q : Quote) → after move (Long q) (three q) ≡ Some Closed
closes Single = refl
closes Double = refl

-- what is read alike after none, one and two marks is read after up to two marks
marked : (q : Quote) (k : ℕ) (t : List ℕ) → k < 3 → (after move (Long q) t ≡ Some Closed) × (after move (LongOne q) t ≡ Some Closed) × (after move (LongTwo q) t ≡ Some Closed)
    → after move (Long q) (replicate k (quote_byte q) ++ t) ≡ Some Closed
marked q zero t l a = a.0
marked q (suc zero) t l a = rw (itself q) a.1
marked q (suc (suc zero)) t l a = rw (itself q, itself q) a.2
marked q (suc (suc (suc k))) t l a = absurd (omega arith)

longs : (q : Quote) (s : List ℕ) → IsLong (quote_byte q) s → after move (Long q) (s ++ three q) ≡ Some Closed
longs q s long_end = closes q
longs q s (long_plain k b u l n h) =
    let x = or_parts (eqb b (quote_byte q)) (eqb b 92 || false) n in
    let y = or_parts (eqb b 92) false x.1 in
    let i = longs q u h in
    rw append_assoc (marked q k (b ∷ (u ++ three q)) l (rw (x.0, y.0) i, rw (x.0, y.0) i, rw (x.0, y.0) i))
longs q s (long_taken k b u l h) =
    let i = longs q u h in
    rw append_assoc (marked q k (92 ∷ b ∷ (u ++ three q)) l (rw (no_backslash q) i, rw (no_backslash q) i, rw (no_backslash q) i))

abbrev is_opened : Option State → Quote → Bool
is_opened (Some (Opened Single)) Single = true
is_opened (Some (Opened Double)) Double = true
is_opened _ _ = false

opened_at : (o : Option State) (q : Quote) → is_opened o q ≡ true → o ≡ Some (Opened q)
opened_at (Some (Opened Single)) Single h = refl
opened_at (Some (Opened Double)) Double h = refl
opened_at _ _ h = absurd (both_ways false refl h)

abbrev opens : Quote → List ℕ → Bool
opens q p = is_opened (after move Start (p ++ (quote_byte q ∷ []))) q

pub prefix_opens : (q : Quote) (p : List ℕ) → is_prefix p ≡ true → after move Start (p ++ (quote_byte q ∷ [])) ≡ Some (Opened q)
prefix_opens Single p h = opened_at (after move Start (p ++ (39 ∷ []))) Single (one_text (opens Single) prefixes refl p h)
prefix_opens Double p h = opened_at (after move Start (p ++ (34 ∷ []))) Double (one_text (opens Double) prefixes refl p h)

pub prefixed : (q : Quote) (p x : List ℕ) → is_prefix p ≡ true → after move Start (p ++ (quote_byte q ∷ x)) ≡ after move (Opened q) x
prefixed q p x y = rw (← append_assoc p (quote_byte q ∷ []) x) (after_append move Start (Opened q) (p ++ (quote_byte q ∷ [])) x (prefix_opens q p y))

pub empty_state : (q : Quote) (p : List ℕ) → is_prefix p ≡ true → after move Start (p ++ (quote_byte q ∷ quote_byte q ∷ [])) ≡ Some (Empty q)
empty_state q p y = prefixed q p (quote_byte q ∷ []) y ∙ rw (itself q) refl

two_marks : (p s u : List ℕ) (m b : ℕ) → s ≡ p ++ (m ∷ (u ++ (m ∷ []))) → u ≡ [] → m ≡ b → s ≡ p ++ (b ∷ b ∷ [])
two_marks p s u m b is e i = rw (is, e, i) refl

-- the state after a string says whether it is empty, with single marks
pub string_state : (s : List ℕ) → IsString s → (after move Start s ≡ Some Closed) ⊎ ((p : List ℕ) × (q : Quote) × (is_prefix p ≡ true) × (s ≡ p ++ (quote_byte q ∷ quote_byte q ∷ [])))
string_state s (p, t, is, y, single m u n h) =
    let w = quote_of m n in
    elim (openeds (w.0) u (subst (λ (x : ℕ). IsShort x u) w.1 h)) [
      | inl e ↦ inl (rw (is, w.1) (prefixed (w.0) p (u ++ (quote_byte (w.0) ∷ [])) y ∙ e))
      | inr e ↦ inr (p, w.0, y, two_marks p s u m (quote_byte (w.0)) is e w.1)
    ]
string_state s (p, t, is, y, triple m u n h) =
    let w = quote_of m n in
    let q = w.0 in
    inl (rw (is, w.1) (prefixed q p (quote_byte q ∷ quote_byte q ∷ (u ++ three q)) y ∙ rw (itself q, itself q) (longs q u (subst (λ (x : ℕ). IsLong x u) w.1 h))))

pub string_taken : (s : List ℕ) → IsString s → reads Start s ≡ Some v.String
string_taken s h =
    elim (string_state s h) [
      | inl e ↦ rw e refl
      | inr w ↦ rw (w.3, empty_state w.1 w.0 w.2) refl
    ]
