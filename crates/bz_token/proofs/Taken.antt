-- What the machine takes from each state but the first.
use Rattle.bz_token.proofs.Words.{[], ◌&&◌, ◌++◌, ◌<◌, ◌||◌, ◌∙◌, ◌∷◌, ◌≡◌, ◌≤◌, ◌⊎◌, after, among, and_left, and_next, and_right, ap, append_assoc, arith, Bang, cases_Bool, Class, Class as v, Closed, doubled_move, Each, Ended, ends, eqb, eqb-true, Exponent, ExponentMark, ExponentSign, false, Fraction, Hex, HexMark, High, inl, inr, is_digit, is_e, is_hexadecimal, is_high, is_letter, is_o, is_octal, is_sign, is_x, IsDigits, IsLetters, IsLong, IsShort, IsSigned, length, List, Long, long_end, long_move, long_plain, long_taken, LongOne, LongTaken, LongTwo, MayBeExponent, move, none, none-some, Oct, OctMark, one, Operator, Point, Quote, quote_byte, reads, refl, replicate, same_Some, Short, short_end, short_line, short_plain, short_taken, ShortTaken, Some, SomeOf, Star, State, suc, sym, three, true, Whole, Word, Zero, zero, ℕ}

-- ---- marks

pub ended_reads : (k : Class) (s : List ℕ) → reads Ended s ≡ Some k → (k ≡ v.Mark) × (s ≡ [])
ended_reads k [] h = (sym (same_Some v.Mark k h), refl)
ended_reads k (b ∷ s) h = absurd (none-some k h)

pub operator_reads : (k : Class) (s : List ℕ) → reads Operator s ≡ Some k → (k ≡ v.Mark) × ((s ≡ []) ⊎ (s ≡ 61 ∷ []))
operator_reads k [] h = (sym (same_Some v.Mark k h), inl refl)
operator_reads k (b ∷ s) h =
    elim (cases_Bool (eqb b 61)) [
      | inl e ↦ let w = ended_reads k s (rw e at h) in (w.0, inr (rw (eqb-true b 61 e, w.1) refl))
      | inr e ↦ absurd (none-some k (rw e at h))
    ]

pub star_reads : (k : Class) (s : List ℕ) → reads Star s ≡ Some k → (k ≡ v.Mark) × ((s ≡ []) ⊎ ((s ≡ 42 ∷ []) ⊎ (s ≡ 61 ∷ [])))
star_reads k [] h = (sym (same_Some v.Mark k h), inl refl)
star_reads k (b ∷ s) h =
    elim (cases_Bool (eqb b 42)) [
      | inl e ↦ let w = ended_reads k s (rw e at h) in (w.0, inr (inl (rw (eqb-true b 42 e, w.1) refl)))
      | inr e ↦ elim (cases_Bool (eqb b 61)) [
        | inl f ↦ let w = ended_reads k s (rw (e, f) at h) in (w.0, inr (inr (rw (eqb-true b 61 f, w.1) refl)))
        | inr f ↦ absurd (none-some k (rw (e, f) at h))
      ]
    ]

pub bang_reads : (k : Class) (s : List ℕ) → reads Bang s ≡ Some k → (k ≡ v.Mark) × (s ≡ 61 ∷ [])
bang_reads k [] h = absurd (none-some k h)
bang_reads k (b ∷ s) h =
    elim (cases_Bool (eqb b 61)) [
      | inl e ↦ let w = ended_reads k s (rw e at h) in (w.0, rw (eqb-true b 61 e, w.1) refl)
      | inr e ↦ absurd (none-some k (rw e at h))
    ]

-- after a first mark c
pub doubled_reads : (k : Class) (c b : ℕ) (s : List ℕ) → and_next (and_next (doubled_move c b) (λ r. after move r s)) ends ≡ Some k
    → (k ≡ v.Mark) × ((b ∷ s ≡ 61 ∷ []) ⊎ ((b ∷ s ≡ c ∷ []) ⊎ (b ∷ s ≡ c ∷ 61 ∷ [])))
doubled_reads k c b s h =
    elim (cases_Bool (eqb b c)) [
      | inl e ↦
          let w = operator_reads k s (rw e at h) in
          let i : b ≡ c = eqb-true b c e in
          (w.0, elim w.1 [ inl z ↦ inr (inl (rw (i, z) refl)) | inr z ↦ inr (inr (rw (i, z) refl)) ])
      | inr e ↦ elim (cases_Bool (eqb b 61)) [
        | inl f ↦ let w = ended_reads k s (rw (e, f) at h) in (w.0, inl (rw (eqb-true b 61 f, w.1) refl))
        | inr f ↦ absurd (none-some k (rw (e, f) at h))
      ]
    ]

-- ---- numbers

exponent_reads : (k : Class) (s : List ℕ) → reads Exponent s ≡ Some k → (k ≡ v.Number) × Each is_digit s
exponent_reads k [] h = (sym (same_Some v.Number k h), tt)
exponent_reads k (b ∷ s) h =
    elim (cases_Bool (is_digit b)) [
      | inl d ↦ let w = exponent_reads k s (rw d at h) in (w.0, (d, w.1))
      | inr d ↦ absurd (none-some k (rw d at h))
    ]

sign_reads : (k : Class) (s : List ℕ) → reads ExponentSign s ≡ Some k → (k ≡ v.Number) × IsDigits s
sign_reads k [] h = absurd (none-some k h)
sign_reads k (b ∷ s) h =
    elim (cases_Bool (is_digit b)) [
      | inl d ↦ let w = exponent_reads k s (rw d at h) in (w.0, (d, w.1))
      | inr d ↦ absurd (none-some k (rw d at h))
    ]

exponent_mark_reads : (k : Class) (s : List ℕ) → reads ExponentMark s ≡ Some k → (k ≡ v.Number) × (IsDigits s ⊎ IsSigned s)
exponent_mark_reads k [] h = absurd (none-some k h)
exponent_mark_reads k (b ∷ s) h =
    elim (cases_Bool (is_digit b)) [
      | inl d ↦ let w = exponent_reads k s (rw d at h) in (w.0, inl (d, w.1))
      | inr d ↦ elim (cases_Bool (is_sign b)) [
        | inl g ↦ let w = sign_reads k s (rw (d, g) at h) in (w.0, inr (g, w.1))
        | inr g ↦ absurd (none-some k (rw (d, g) at h))
      ]
    ]

-- what is after a point with a digit on one side: digits, and perhaps an exponent
abbrev pub IsFraction : List ℕ → Type 0
IsFraction s = (d : List ℕ) × (e : List ℕ) × (s ≡ d ++ e) × Each is_digit d × MayBeExponent e

pub fraction_reads : (k : Class) (s : List ℕ) → reads Fraction s ≡ Some k → (k ≡ v.Number) × IsFraction s
fraction_reads k [] h = (sym (same_Some v.Number k h), ([], [], refl, tt, inl refl))
fraction_reads k (b ∷ s) h =
    elim (cases_Bool (is_digit b)) [
      | inl d ↦
          let w = fraction_reads k s (rw d at h) in
          let x = w.1 in
          (w.0, (b ∷ x.0, x.1, ap (λ (t : List ℕ). b ∷ t) x.2, (d, x.3), x.4))
      | inr d ↦ elim (cases_Bool (is_e b)) [
        | inl g ↦ let w = exponent_mark_reads k s (rw (d, g) at h) in (w.0, ([], b ∷ s, refl, tt, inr (g, w.1)))
        | inr g ↦ absurd (none-some k (rw (d, g) at h))
      ]
    ]

-- what is after the first digit: digits, and perhaps a point and what is after it, or an exponent
abbrev pub AfterDigit : List ℕ → Type 0
AfterDigit s = (d : List ℕ) × (e : List ℕ) × (s ≡ d ++ e) × Each is_digit d × (MayBeExponent e ⊎ ((f : List ℕ) × (e ≡ 46 ∷ f) × IsFraction f))

pub whole_reads : (k : Class) (s : List ℕ) → reads Whole s ≡ Some k → (k ≡ v.Number) × AfterDigit s
whole_reads k [] h = (sym (same_Some v.Number k h), ([], [], refl, tt, inl (inl refl)))
whole_reads k (b ∷ s) h =
    elim (cases_Bool (is_digit b)) [
      | inl d ↦
          let w = whole_reads k s (rw d at h) in
          let x = w.1 in
          (w.0, (b ∷ x.0, x.1, ap (λ (t : List ℕ). b ∷ t) x.2, (d, x.3), x.4))
      | inr d ↦ elim (cases_Bool (eqb b 46)) [
        | inl p ↦ let w = fraction_reads k s (rw (d, p) at h) in (w.0, ([], b ∷ s, refl, tt, inr (s, ap (λ (x : ℕ). x ∷ s) (eqb-true b 46 p), w.1)))
        | inr p ↦ elim (cases_Bool (is_e b)) [
          | inl g ↦ let w = exponent_mark_reads k s (rw (d, p, g) at h) in (w.0, ([], b ∷ s, refl, tt, inl (inr (g, w.1))))
          | inr g ↦ absurd (none-some k (rw (d, p, g) at h))
        ]
      ]
    ]

hex_reads : (k : Class) (s : List ℕ) → reads Hex s ≡ Some k → (k ≡ v.Number) × Each is_hexadecimal s
hex_reads k [] h = (sym (same_Some v.Number k h), tt)
hex_reads k (b ∷ s) h =
    elim (cases_Bool (is_hexadecimal b)) [
      | inl d ↦ let w = hex_reads k s (rw d at h) in (w.0, (d, w.1))
      | inr d ↦ absurd (none-some k (rw d at h))
    ]

hex_mark_reads : (k : Class) (s : List ℕ) → reads HexMark s ≡ Some k → (k ≡ v.Number) × SomeOf is_hexadecimal s
hex_mark_reads k [] h = absurd (none-some k h)
hex_mark_reads k (b ∷ s) h =
    elim (cases_Bool (is_hexadecimal b)) [
      | inl d ↦ let w = hex_reads k s (rw d at h) in (w.0, (d, w.1))
      | inr d ↦ absurd (none-some k (rw d at h))
    ]

oct_reads : (k : Class) (s : List ℕ) → reads Oct s ≡ Some k → (k ≡ v.Number) × Each is_octal s
oct_reads k [] h = (sym (same_Some v.Number k h), tt)
oct_reads k (b ∷ s) h =
    elim (cases_Bool (is_octal b)) [
      | inl d ↦ let w = oct_reads k s (rw d at h) in (w.0, (d, w.1))
      | inr d ↦ absurd (none-some k (rw d at h))
    ]

oct_mark_reads : (k : Class) (s : List ℕ) → reads OctMark s ≡ Some k → (k ≡ v.Number) × SomeOf is_octal s
oct_mark_reads k [] h = absurd (none-some k h)
oct_mark_reads k (b ∷ s) h =
    elim (cases_Bool (is_octal b)) [
      | inl d ↦ let w = oct_reads k s (rw d at h) in (w.0, (d, w.1))
      | inr d ↦ absurd (none-some k (rw d at h))
    ]

-- what is after a first 0: more than after another digit
abbrev pub AfterZero : List ℕ → Type 0
AfterZero [] = Unit {0}
AfterZero (b ∷ s) = AfterDigit (b ∷ s) ⊎ (((is_x b ≡ true) × SomeOf is_hexadecimal s) ⊎ ((is_o b ≡ true) × SomeOf is_octal s))

pub zero_reads : (k : Class) (s : List ℕ) → reads Zero s ≡ Some k → (k ≡ v.Number) × AfterZero s
zero_reads k [] h = (sym (same_Some v.Number k h), tt)
zero_reads k (b ∷ s) h =
    elim (cases_Bool (is_digit b)) [
      | inl d ↦ let w = whole_reads k (b ∷ s) (rw d (rw d at h)) in (w.0, inl w.1)
      | inr d ↦ elim (cases_Bool (eqb b 46)) [
        | inl p ↦ let w = whole_reads k (b ∷ s) (rw (d, p) (rw (d, p) at h)) in (w.0, inl w.1)
        | inr p ↦ elim (cases_Bool (is_e b)) [
          | inl g ↦ let w = whole_reads k (b ∷ s) (rw (d, p, g) (rw (d, p, g) at h)) in (w.0, inl w.1)
          | inr g ↦ elim (cases_Bool (is_x b)) [
            | inl x ↦ let w = hex_mark_reads k s (rw (d, p, g, x) at h) in (w.0, inr (inl (x, w.1)))
            | inr x ↦ elim (cases_Bool (is_o b)) [
              | inl o ↦ let w = oct_mark_reads k s (rw (d, p, g, x, o) at h) in (w.0, inr (inr (o, w.1)))
              | inr o ↦ absurd (none-some k (rw (d, p, g, x, o) at h))
            ]
          ]
        ]
      ]
    ]

-- a point alone is a mark
pub point_reads : (k : Class) (s : List ℕ) → reads Point s ≡ Some k → ((k ≡ v.Mark) × (s ≡ [])) ⊎ ((k ≡ v.Number) × (b : ℕ) × (t : List ℕ) × (s ≡ b ∷ t) × (is_digit b ≡ true) × IsFraction t)
point_reads k [] h = inl (sym (same_Some v.Mark k h), refl)
point_reads k (b ∷ s) h =
    elim (cases_Bool (is_digit b)) [
      | inl d ↦ let w = fraction_reads k s (rw d at h) in inr (w.0, b, s, refl, d, w.1)
      | inr d ↦ absurd (none-some k (rw d at h))
    ]

-- ---- strings

closed_reads : (k : Class) (s : List ℕ) → reads Closed s ≡ Some k → (k ≡ v.String) × (s ≡ [])
closed_reads k [] h = (sym (same_Some v.String k h), refl)
closed_reads k (b ∷ s) h = absurd (none-some k h)

-- after a backslash: one byte, or CR LF
taken_reads : (q : Quote) (k : Class) (s : List ℕ) → reads (ShortTaken q) s ≡ Some k
    → (b : ℕ) × (t : List ℕ) × (s ≡ b ∷ t) × ((reads (Short q) t ≡ Some k) ⊎ ((u : List ℕ) × (s ≡ 13 ∷ 10 ∷ u) × (reads (Short q) u ≡ Some k)))
taken_reads q k [] h = absurd (none-some k h)
taken_reads q k (b ∷ []) h =
    elim (cases_Bool (eqb b 13)) [
      | inl e ↦ absurd (none-some k (rw e at h))
      | inr e ↦ (b, [], refl, inl (rw e at h))
    ]
taken_reads q k (b ∷ c ∷ s) h =
    elim (cases_Bool (eqb b 13)) [
      | inl e ↦ elim (cases_Bool (eqb c 10)) [
        | inl f ↦ (b, c ∷ s, refl, inr (s, rw (eqb-true b 13 e, eqb-true c 10 f) refl, rw (e, f) at h))
        | inr f ↦ (b, c ∷ s, refl, inl (rw f (rw (e, f) at h)))
      ]
      | inr e ↦ (b, c ∷ s, refl, inl (rw e at h))
    ]

-- what is after a mark: pieces and the same mark
abbrev pub EndsShort : Quote → List ℕ → Type 0
EndsShort q s = (x : List ℕ) × (s ≡ x ++ (quote_byte q ∷ [])) × IsShort (quote_byte q) x

shorter : (n b c : ℕ) (s t : List ℕ) → length (b ∷ s) ≤ suc n → s ≡ c ∷ t → length t ≤ n
shorter n b c s t l e = let j : length s ≡ length (c ∷ t) = ap length e in omega arith

shorter_line : (n b : ℕ) (s t : List ℕ) → length (b ∷ s) ≤ suc n → s ≡ 13 ∷ 10 ∷ t → length t ≤ n
shorter_line n b s t l e = let j : length s ≡ length (13 ∷ 10 ∷ t) = ap length e in omega arith

taken_piece : (q : Quote) (b c : ℕ) (s t x : List ℕ) → b ≡ 92 → s ≡ c ∷ t → t ≡ x ++ (quote_byte q ∷ []) → IsShort (quote_byte q) x → EndsShort q (b ∷ s)
taken_piece q b c s t x i j e h = (92 ∷ c ∷ x, rw (i, j, e) refl, short_taken h)

plain_short : (q : Quote) (b : ℕ) (s x : List ℕ) → among b (quote_byte q ∷ 10 ∷ 92 ∷ []) ≡ false → s ≡ x ++ (quote_byte q ∷ []) → IsShort (quote_byte q) x → EndsShort q (b ∷ s)
plain_short q b s x n e h = (b ∷ x, rw e refl, short_plain n h)

line_piece : (q : Quote) (b : ℕ) (s t x : List ℕ) → b ≡ 92 → s ≡ 13 ∷ 10 ∷ t → t ≡ x ++ (quote_byte q ∷ []) → IsShort (quote_byte q) x → EndsShort q (b ∷ s)
line_piece q b s t x i j e h = (92 ∷ 13 ∷ 10 ∷ x, rw (i, j, e) refl, short_line h)

pub short_reads : (n : ℕ) (q : Quote) (k : Class) (s : List ℕ) → length s ≤ n → reads (Short q) s ≡ Some k → (k ≡ v.String) × EndsShort q s
short_reads n q k [] l h = absurd (none-some k h)
short_reads zero q k (b ∷ s) l h = absurd (omega arith)
short_reads (suc n) q k (b ∷ s) l h =
    elim (cases_Bool (eqb b (quote_byte q))) [
      | inl e ↦ let w = closed_reads k s (rw e at h) in (w.0, ([], rw (eqb-true b (quote_byte q) e, w.1) refl, short_end))
      | inr e ↦ elim (cases_Bool (eqb b 92)) [
        | inl f ↦
            let i : b ≡ 92 = eqb-true b 92 f in
            let w = taken_reads q k s (rw (e, f) at h) in
            elim w.3 [
              | inl r ↦
                  let x = short_reads n q k (w.1) (shorter n b (w.0) s (w.1) l w.2) r in
                  let y = x.1 in
                  (x.0, taken_piece q b (w.0) s (w.1) (y.0) i w.2 y.1 y.2)
              | inr r ↦
                  let x = short_reads n q k (r.0) (shorter_line n b s (r.0) l r.1) r.2 in
                  let y = x.1 in
                  (x.0, line_piece q b s (r.0) (y.0) i r.1 y.1 y.2)
            ]
        | inr f ↦ elim (cases_Bool (eqb b 10)) [
          | inl g ↦ absurd (none-some k (rw (e, f, g) at h))
          | inr g ↦
              let x = short_reads n q k s (omega arith) (rw (e, f, g) at h) in
              let y = x.1 in
              (x.0, plain_short q b s (y.0) (rw (e, g, f) refl) y.1 y.2)
        ]
      ]
    ]

abbrev pub three_of : Quote → List ℕ
three_of q = quote_byte q ∷ quote_byte q ∷ quote_byte q ∷ []

-- what is after j marks in a row in a text of three
abbrev pub EndsLong : Quote → ℕ → List ℕ → Type 0
EndsLong q j s = (x : List ℕ) × (replicate j (quote_byte q) ++ s ≡ x ++ three_of q) × IsLong (quote_byte q) x

shift : (j m : ℕ) (s : List ℕ) → replicate j m ++ (m ∷ s) ≡ replicate (suc j) m ++ s
shift zero m s = refl
shift (suc j) m s = ap (λ (t : List ℕ). m ∷ t) (shift j m s)

-- a mark, one of its kind more
mark_piece : (q : Quote) (j b : ℕ) (s : List ℕ) → b ≡ quote_byte q → EndsLong q (suc j) s → EndsLong q j (b ∷ s)
mark_piece q j b s i (x, e, h) = (x, rw i (shift j (quote_byte q) s ∙ e), h)

long_taken_piece : (q : Quote) (j b c : ℕ) (s t x : List ℕ) → j < 3 → b ≡ 92 → s ≡ c ∷ t → t ≡ x ++ three_of q → IsLong (quote_byte q) x → EndsLong q j (b ∷ s)
long_taken_piece q j b c s t x l i is e h =
    (replicate j (quote_byte q) ++ (92 ∷ c ∷ x), rw (i, is, e) (sym (append_assoc (replicate j (quote_byte q)) (92 ∷ c ∷ x) (three_of q))), long_taken j c x l h)

plain_piece : (q : Quote) (j b : ℕ) (s x : List ℕ) → j < 3 → among b (quote_byte q ∷ 92 ∷ []) ≡ false → s ≡ x ++ three_of q → IsLong (quote_byte q) x → EndsLong q j (b ∷ s)
plain_piece q j b s x l n e h =
    (replicate j (quote_byte q) ++ (b ∷ x), rw e (sym (append_assoc (replicate j (quote_byte q)) (b ∷ x) (three_of q))), long_plain j b x l n h)

long_taken_reads : (q : Quote) (k : Class) (s : List ℕ) → reads (LongTaken q) s ≡ Some k → (c : ℕ) × (t : List ℕ) × (s ≡ c ∷ t) × (reads (Long q) t ≡ Some k)
long_taken_reads q k [] h = absurd (none-some k h)
long_taken_reads q k (c ∷ t) h = (c, t, refl, h)

-- after another piece than a mark
long_rest : (q : Quote) (j : ℕ) (r : State) (k : Class) (b : ℕ) (s : List ℕ) → j < 3 → eqb b (quote_byte q) ≡ false
    → ((t : List ℕ) → length t ≤ length s → reads (Long q) t ≡ Some k → (k ≡ v.String) × EndsLong q 0 t)
    → and_next (and_next (long_move r q b) (λ p. after move p s)) ends ≡ Some k → (k ≡ v.String) × EndsLong q j (b ∷ s)
long_rest q j r k b s l e f h =
    elim (cases_Bool (eqb b 92)) [
      | inl g ↦
          let w = long_taken_reads q k s (rw (e, g) at h) in
          let x = f (w.1) (let n : length s ≡ length (w.0 ∷ w.1) = ap length w.2 in omega arith) w.3 in
          let y = x.1 in
          (x.0, long_taken_piece q j b (w.0) s (w.1) (y.0) l (eqb-true b 92 g) w.2 y.1 y.2)
      | inr g ↦
          let x = f s (omega arith) (rw (e, g) at h) in
          let y = x.1 in
          (x.0, plain_piece q j b s (y.0) l (rw (e, g) refl) y.1 y.2)
    ]

last_piece : (q : Quote) (b : ℕ) (s : List ℕ) → b ≡ quote_byte q → s ≡ [] → EndsLong q 2 (b ∷ s)
last_piece q b s i e = ([], rw (i, e) refl, long_end)

pub long_reads : (n : ℕ) (q : Quote) (k : Class) (s : List ℕ) → length s ≤ n
    → (reads (Long q) s ≡ Some k → (k ≡ v.String) × EndsLong q 0 s) × (reads (LongOne q) s ≡ Some k → (k ≡ v.String) × EndsLong q 1 s) × (reads (LongTwo q) s ≡ Some k → (k ≡ v.String) × EndsLong q 2 s)
long_reads n q k [] l = (λ h. absurd (none-some k h), λ h. absurd (none-some k h), λ h. absurd (none-some k h))
long_reads zero q k (b ∷ s) l = absurd (omega arith)
long_reads (suc n) q k (b ∷ s) l =
    let here = long_reads n q k s (omega arith) in
    let later : (t : List ℕ) → length t ≤ length s → reads (Long q) t ≡ Some k → (k ≡ v.String) × EndsLong q 0 t = λ t m. (long_reads n q k t (omega arith)).0 in (
      λ h. elim (cases_Bool (eqb b (quote_byte q))) [
        | inl e ↦ let w = here.1 (rw e at h) in (w.0, mark_piece q 0 b s (eqb-true b (quote_byte q) e) w.1)
        | inr e ↦ long_rest q 0 (LongOne q) k b s (omega arith) e later h
      ],
      λ h. elim (cases_Bool (eqb b (quote_byte q))) [
        | inl e ↦ let w = here.2 (rw e at h) in (w.0, mark_piece q 1 b s (eqb-true b (quote_byte q) e) w.1)
        | inr e ↦ long_rest q 1 (LongTwo q) k b s (omega arith) e later h
      ],
      λ h. elim (cases_Bool (eqb b (quote_byte q))) [
        | inl e ↦ let w = closed_reads k s (rw e at h) in (w.0, last_piece q b s (eqb-true b (quote_byte q) e) w.1)
        | inr e ↦ long_rest q 2 Closed k b s (omega arith) e later h
      ],
    )

-- ---- names

abbrev pub IsHigh : Class → List ℕ → Type 0
IsHigh k s = (b : ℕ) × (c : ℕ) × (u : List ℕ) × (s ≡ b ∷ c ∷ u) × (is_high b ≡ true) × (is_high c ≡ true) × ((eqb b 187 && eqb c 191) ≡ false) × (reads Word u ≡ Some k)

pub high_reads : (k : Class) (s : List ℕ) → reads High s ≡ Some k → IsHigh k s
high_reads k [] h = absurd (none-some k h)
high_reads k (b ∷ []) h =
    elim (cases_Bool (eqb b 187)) [
      | inl e ↦ absurd (none-some k (rw e at h))
      | inr e ↦ elim (cases_Bool (is_high b)) [ inl y ↦ absurd (none-some k (rw (e, y) at h)) | inr y ↦ absurd (none-some k (rw (e, y) at h)) ]
    ]
high_reads k (b ∷ c ∷ s) h =
    elim (cases_Bool (eqb b 187)) [
      | inl e ↦ elim (cases_Bool (eqb c 191)) [
        | inl f ↦ absurd (none-some k (rw (e, f) at h))
        | inr f ↦ elim (cases_Bool (is_high c)) [
          | inl z ↦ (b, c, s, refl, rw (eqb-true b 187 e) refl, z, and_right (eqb b 187) (eqb c 191) f, rw (e, f, z) at h)
          | inr z ↦ absurd (none-some k (rw (e, f, z) at h))
        ]
      ]
      | inr e ↦ elim (cases_Bool (is_high b)) [
        | inl y ↦ elim (cases_Bool (is_high c)) [
          | inl z ↦ (b, c, s, refl, y, z, and_left (eqb b 187) (eqb c 191) e, rw (e, y, z) at h)
          | inr z ↦ absurd (none-some k (rw (e, y, z) at h))
        ]
        | inr y ↦ absurd (none-some k (rw (e, y) at h))
      ]
    ]

pub three_letters : (a b c : ℕ) (s u : List ℕ) → a ≡ 239 → s ≡ b ∷ c ∷ u → is_high b ≡ true → is_high c ≡ true → (eqb b 187 && eqb c 191) ≡ false → IsLetters u → IsLetters (a ∷ s)
three_letters a b c s u i is y z n h = rw (i, is) (three y z n h)

pub word_reads : (n : ℕ) (k : Class) (s : List ℕ) → length s ≤ n → reads Word s ≡ Some k → (k ≡ v.Name) × IsLetters s
word_reads n k [] l h = (sym (same_Some v.Name k h), none)
word_reads zero k (b ∷ s) l h = absurd (omega arith)
word_reads (suc n) k (b ∷ s) l h =
    elim (cases_Bool (eqb b 239)) [
      | inl e ↦
          let i : b ≡ 239 = eqb-true b 239 e in
          let w = high_reads k s (rw e at h) in
          let m : length s ≡ length (w.0 ∷ w.1 ∷ w.2) = ap length w.3 in
          let x = word_reads n k (w.2) (omega arith) w.7 in
          (x.0, three_letters b (w.0) (w.1) s (w.2) i w.3 w.4 w.5 w.6 x.1)
      | inr e ↦ elim (cases_Bool (is_letter b || is_digit b)) [
        | inl y ↦ let w = word_reads n k s (omega arith) (rw (e, y) at h) in (w.0, one y e w.1)
        | inr y ↦ absurd (none-some k (rw (e, y) at h))
      ]
    ]
