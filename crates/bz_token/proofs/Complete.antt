-- The machine takes the texts of each class.
use Rattle.bz_token.proofs.Words.{[], ◌++◌, ◌||◌, ◌∷◌, ◌≡◌, ◌⊎◌, Bool, both_ways, cases_Bool, Class, Class as v, Each, eqb, eqb-true, Exponent, ExponentMark, ExponentSign, false, Fraction, Hex, hexadecimal, HexMark, inl, inr, is_digit, is_e, is_hexadecimal, is_letter, is_octal, IsDigits, IsExponent, IsLetters, IsLexeme, IsNumber, IsSigned, IsWord, keyword_or_name, keywords, List, lone_marks, mark_start, marks, MayBeExponent, move, None, none, none-some, not, Oct, octal, OctMark, one, operator_marks, Option, or_cases, point_first, pointed, PrefixB, PrefixBoth, PrefixR, quote_or_word, reads, refl, scaled, Some, SomeOf, Start, text_start, three, true, Whole, whole, Word, Zero, ℕ}
use Rattle.bz_token.proofs.{Strings.string_taken, Tables.every, Tables.none_of, Tables.is_not, Tables.one_text}

abbrev pub is_class_1 : Option Class → Bool
is_class_1 (Some v.Name) = true
is_class_1 _ = false

abbrev is_class_5 : Option Class → Bool
is_class_5 (Some v.Mark) = true
is_class_5 _ = false

pub at_1 : (o : Option Class) → is_class_1 o ≡ true → o ≡ Some v.Name
at_1 (Some v.Name) h = refl
at_1 _ h = absurd (both_ways false refl h)

at_5 : (o : Option Class) → is_class_5 o ≡ true → o ≡ Some v.Mark
at_5 (Some v.Mark) h = refl
at_5 _ h = absurd (both_ways false refl h)

-- ---- names

words : (s : List ℕ) → IsLetters s → reads Word s ≡ Some v.Name
words s none = refl
words s (one l e h) = rw (e, l) (words _ h)
words s (three {b = b} {c = c} x y n h) =
    elim (cases_Bool (eqb b 187)) [
      | inl e ↦ let f : eqb c 191 ≡ false = rw e at n in rw (e, f, y) (words _ h)
      | inr e ↦ rw (e, x, y) (words _ h)
    ]

-- a byte of a name that begins neither a character like U+FEFF nor a string
no_quote : (b : ℕ) → (is_letter b || is_digit b) ≡ true → eqb b 239 ≡ false → quote_or_word b ≡ Some Word
no_quote b l e =
    let x : eqb b 34 ≡ false = is_not (λ c. is_letter c || is_digit c) 34 refl b l in
    let y : eqb b 39 ≡ false = is_not (λ c. is_letter c || is_digit c) 39 refl b l in
    rw (x, y, e, l) refl

boths : (s : List ℕ) → IsLetters s → reads PrefixBoth s ≡ Some v.Name
boths s none = refl
boths s (one {b = b} l e h) = rw (no_quote b l e) (words _ h)
boths s (three x y n h) = words s (three x y n h)

prefix_rs : (s : List ℕ) → IsLetters s → reads PrefixR s ≡ Some v.Name
prefix_rs s none = refl
prefix_rs s (one {b = b} l e h) =
    elim (cases_Bool (eqb b 98)) [ inl k ↦ rw k (boths _ h) | inr k ↦ rw (k, no_quote b l e) (words _ h) ]
prefix_rs s (three x y n h) = words s (three x y n h)

prefix_bs : (s : List ℕ) → IsLetters s → reads PrefixB s ≡ Some v.Name
prefix_bs s none = refl
prefix_bs s (one {b = b} l e h) =
    elim (cases_Bool (eqb b 114)) [ inl k ↦ rw k (boths _ h) | inr k ↦ rw (k, no_quote b l e) (words _ h) ]
prefix_bs s (three x y n h) = words s (three x y n h)

no_mark : (p : ℕ → Bool) → every (λ c. not (p c)) lone_marks ≡ true → every (λ c. not (p c)) operator_marks ≡ true → (p 42 ≡ false) × (p 47 ≡ false) × (p 60 ≡ false) × (p 62 ≡ false) × (p 33 ≡ false)
    → (b : ℕ) → p b ≡ true → mark_start b ≡ None
no_mark p l o n b h =
    let x = none_of p lone_marks l b h in
    let y = none_of p operator_marks o b h in
    rw (x, y, is_not p 42 n.0 b h, is_not p 47 n.1 b h, is_not p 60 n.2 b h, is_not p 62 n.3 b h, is_not p 33 n.4 b h) refl

letter_start : (b : ℕ) → is_letter b ≡ true → is_digit b ≡ false → eqb b 239 ≡ false → move Start b ≡ text_start b
letter_start b l d e =
    let x : eqb b 48 ≡ false = is_not is_letter 48 refl b l in
    let y : eqb b 46 ≡ false = is_not is_letter 46 refl b l in
    rw (no_mark is_letter refl refl (refl, refl, refl, refl, refl) b l, x, d, y) refl

letter_text : (b : ℕ) → is_letter b ≡ true → eqb b 114 ≡ false → eqb b 98 ≡ false → eqb b 239 ≡ false → text_start b ≡ Some Word
letter_text b l r k e =
    let x : eqb b 34 ≡ false = is_not is_letter 34 refl b l in
    let y : eqb b 39 ≡ false = is_not is_letter 39 refl b l in
    rw (r, k, x, y, e, l) refl

starts : (b : ℕ) (s : List ℕ) → is_digit b ≡ false → IsLetters (b ∷ s) → reads Start (b ∷ s) ≡ Some v.Name
starts b s d (one l e h) =
    let y : is_letter b ≡ true = elim (or_cases (is_letter b) (is_digit b) l) [ inl i ↦ i | inr i ↦ absurd (both_ways (is_digit b) d i) ] in
    elim (cases_Bool (eqb b 114)) [
      | inl k ↦ rw (letter_start b y d e, k) (prefix_rs s h)
      | inr k ↦ elim (cases_Bool (eqb b 98)) [
        | inl m ↦ rw (letter_start b y d e, k, m) (prefix_bs s h)
        | inr m ↦ rw (letter_start b y d e, letter_text b y k m e) (words s h)
      ]
    ]
starts b s d (three x y n h) = words (b ∷ s) (three x y n h)

pub word_taken : (s : List ℕ) → IsWord s → reads Start s ≡ Some v.Name
word_taken [] h = absurd h
word_taken (b ∷ s) h = starts b s h.0 h.1

-- ---- numbers

exponent_rest : (s : List ℕ) → Each is_digit s → reads Exponent s ≡ Some v.Number
exponent_rest [] h = refl
exponent_rest (b ∷ s) h = rw h.0 (exponent_rest s h.1)

exponent_sign : (s : List ℕ) → IsDigits s → reads ExponentSign s ≡ Some v.Number
exponent_sign [] h = absurd h
exponent_sign (b ∷ s) h = rw h.0 (exponent_rest s h.1)

exponent_mark : (s : List ℕ) → IsDigits s ⊎ IsSigned s → reads ExponentMark s ≡ Some v.Number
exponent_mark [] (inl h) = absurd h
exponent_mark [] (inr h) = absurd h
exponent_mark (b ∷ s) (inl h) = rw h.0 (exponent_rest s h.1)
exponent_mark (b ∷ s) (inr h) =
    elim (or_cases (eqb b 43) (eqb b 45) h.0) [ inl e ↦ rw (eqb-true b 43 e) (exponent_sign s h.1) | inr e ↦ rw (eqb-true b 45 e) (exponent_sign s h.1) ]

fraction_exponent : (s : List ℕ) → IsExponent s → reads Fraction s ≡ Some v.Number
fraction_exponent [] h = absurd h
fraction_exponent (b ∷ s) h =
    elim (or_cases (eqb b 69) (eqb b 101) h.0) [ inl e ↦ rw (eqb-true b 69 e) (exponent_mark s h.1) | inr e ↦ rw (eqb-true b 101 e) (exponent_mark s h.1) ]

whole_exponent : (s : List ℕ) → IsExponent s → reads Whole s ≡ Some v.Number
whole_exponent [] h = absurd h
whole_exponent (b ∷ s) h =
    elim (or_cases (eqb b 69) (eqb b 101) h.0) [ inl e ↦ rw (eqb-true b 69 e) (exponent_mark s h.1) | inr e ↦ rw (eqb-true b 101 e) (exponent_mark s h.1) ]

fractions : (f e : List ℕ) → Each is_digit f → MayBeExponent e → reads Fraction (f ++ e) ≡ Some v.Number
fractions [] e h (inl z) = rw z refl
fractions [] e h (inr x) = fraction_exponent e x
fractions (b ∷ f) e h m = rw h.0 (fractions f e h.1 m)

wholes : (d e : List ℕ) → Each is_digit d → reads Whole e ≡ Some v.Number → reads Whole (d ++ e) ≡ Some v.Number
wholes [] e h t = t
wholes (b ∷ d) e h t = rw h.0 (wholes d e h.1 t)

only_wholes : (d : List ℕ) → Each is_digit d → reads Whole d ≡ Some v.Number
only_wholes [] h = refl
only_wholes (b ∷ d) h = rw h.0 (only_wholes d h.1)

-- after a zero is what is after another digit, and more
zeros : (s : List ℕ) → reads Whole s ≡ Some v.Number → reads Zero s ≡ Some v.Number
zeros [] h = refl
zeros (b ∷ s) h =
    elim (cases_Bool (is_digit b)) [
      | inl d ↦ rw d (rw d at h)
      | inr d ↦ elim (cases_Bool (eqb b 46)) [
        | inl p ↦ rw (d, p) (rw (d, p) at h)
        | inr p ↦ elim (cases_Bool (is_e b)) [
          | inl e ↦ rw (d, p, e) (rw (d, p, e) at h)
          | inr e ↦ absurd (none-some v.Number (rw (d, p, e) at h))
        ]
      ]
    ]

first_digit : (b : ℕ) (s : List ℕ) → is_digit b ≡ true → reads Whole s ≡ Some v.Number → reads Start (b ∷ s) ≡ Some v.Number
first_digit b s d h =
    elim (cases_Bool (eqb b 48)) [
      | inl z ↦ rw (no_mark is_digit refl refl (refl, refl, refl, refl, refl) b d, z) (zeros s h)
      | inr z ↦ rw (no_mark is_digit refl refl (refl, refl, refl, refl, refl) b d, z, d) h
    ]

hexes : (d : List ℕ) → Each is_hexadecimal d → reads Hex d ≡ Some v.Number
hexes [] h = refl
hexes (b ∷ d) h = rw h.0 (hexes d h.1)

hex_mark : (d : List ℕ) → SomeOf is_hexadecimal d → reads HexMark d ≡ Some v.Number
hex_mark [] h = absurd h
hex_mark (b ∷ d) h = rw h.0 (hexes d h.1)

octs : (d : List ℕ) → Each is_octal d → reads Oct d ≡ Some v.Number
octs [] h = refl
octs (b ∷ d) h = rw h.0 (octs d h.1)

oct_mark : (d : List ℕ) → SomeOf is_octal d → reads OctMark d ≡ Some v.Number
oct_mark [] h = absurd h
oct_mark (b ∷ d) h = rw h.0 (octs d h.1)

pub number_taken : (s : List ℕ) → IsNumber s → reads Start s ≡ Some v.Number
number_taken s (whole [] h) = absurd h
number_taken s (whole (b ∷ d) h) = first_digit b d h.0 (only_wholes d h.1)
number_taken s (hexadecimal {b = b} {d = d} x h) =
    elim (or_cases (eqb b 88) (eqb b 120) x) [ inl e ↦ rw (eqb-true b 88 e) (hex_mark d h) | inr e ↦ rw (eqb-true b 120 e) (hex_mark d h) ]
number_taken s (octal {b = b} {d = d} x h) =
    elim (or_cases (eqb b 79) (eqb b 111) x) [ inl e ↦ rw (eqb-true b 79 e) (oct_mark d h) | inr e ↦ rw (eqb-true b 111 e) (oct_mark d h) ]
number_taken s (pointed [] f e h g m) = absurd h
number_taken s (pointed (b ∷ d) f e h g m) = first_digit b (d ++ (46 ∷ (f ++ e))) h.0 (wholes d (46 ∷ (f ++ e)) h.1 (fractions f e g m))
number_taken s (point_first [] e h m) = absurd h
number_taken s (point_first (b ∷ d) e h m) = rw h.0 (fractions d e h.1 m)
number_taken s (scaled [] e h x) = absurd h
number_taken s (scaled (b ∷ d) e h x) = first_digit b (d ++ e) h.0 (wholes d e h.1 (whole_exponent e x))

pub complete : (c : Class) (s : List ℕ) → IsLexeme c s → (k : Class) × (reads Start s ≡ Some k) × (keyword_or_name k s ≡ c)
complete v.Name s h = (v.Name, word_taken s h.0, rw h.1 refl)
complete v.Keyword s h = (v.Name, at_1 (reads Start s) (one_text (λ t. is_class_1 (reads Start t)) keywords refl s h), rw h refl)
complete v.Number s h = (v.Number, number_taken s h, refl)
complete v.String s h = (v.String, string_taken s h, refl)
complete v.Mark s h = (v.Mark, at_5 (reads Start s) (one_text (λ t. is_class_5 (reads Start t)) marks refl s h), refl)
complete v.Newline s h = absurd h
complete v.End s h = absurd h
