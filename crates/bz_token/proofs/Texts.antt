-- The bytes of a text are a lexeme just where its characters are.
use Rattle.bz_token.proofs.Words.{[], ◌++◌, ◌||◌, ◌∙◌, ◌∷◌, ◌≡◌, and_from, arith, Bool, both_ways, ByCharacters, cases_Bool, Class as v, Each, encodes, eqb, eqb-true, false, hexadecimal, inl, inr, is_digit, is_hexadecimal, is_keyword, is_mark, is_octal, IsExponent, IsNumber, keywords, List, marks, MayBeExponent, nat_tests, octal, or_cases, point_first, pointed, refl, scaled, SomeOf, subst, sym, true, whole, ℕ}
use Rattle.bz_token.proofs.{Characters.words_to, Characters.words_from, Pieces.is_low, Pieces.low_encodes, Pieces.low_same, Pieces.string_to, Pieces.string_from, Tables.every, Tables.one_text}

digit_low : (b : ℕ) → is_digit b ≡ true → is_low b ≡ true
digit_low b h = grind (arith, nat_tests)

octal_low : (b : ℕ) → is_octal b ≡ true → is_low b ≡ true
octal_low b h = grind (arith, nat_tests)

hexadecimal_low : (b : ℕ) → is_hexadecimal b ≡ true → is_low b ≡ true
hexadecimal_low b h = grind (arith, nat_tests)

either_low : (b m n : ℕ) → is_low m ≡ true → is_low n ≡ true → (eqb b m || eqb b n) ≡ true → is_low b ≡ true
either_low b m n x y h = elim (or_cases (eqb b m) (eqb b n) h) [ inl e ↦ rw (eqb-true b m e) x | inr e ↦ rw (eqb-true b n e) y ]

every_append : (s t : List ℕ) → every is_low s ≡ true → every is_low t ≡ true → every is_low (s ++ t) ≡ true
every_append [] t h k = k
every_append (b ∷ s) t h k = elim (cases_Bool (is_low b)) [ inl e ↦ rw e (every_append s t (rw e at h) k) | inr e ↦ absurd (both_ways false refl (rw e at h)) ]

each_low : (p : ℕ → Bool) → ((b : ℕ) → p b ≡ true → is_low b ≡ true) → (s : List ℕ) → Each p s → every is_low s ≡ true
each_low p f [] h = refl
each_low p f (b ∷ s) h = and_from (is_low b) (every is_low s) (f b h.0) (each_low p f s h.1)

some_low : (p : ℕ → Bool) → ((b : ℕ) → p b ≡ true → is_low b ≡ true) → (s : List ℕ) → SomeOf p s → every is_low s ≡ true
some_low p f [] h = absurd h
some_low p f (b ∷ s) h = each_low p f (b ∷ s) h

exponent_low : (s : List ℕ) → IsExponent s → every is_low s ≡ true
exponent_low [] h = absurd h
exponent_low (b ∷ s) (x, inl h) = and_from (is_low b) (every is_low s) (either_low b 69 101 refl refl x) (some_low is_digit digit_low s h)
exponent_low (b ∷ []) (x, inr h) = absurd h
exponent_low (b ∷ c ∷ s) (x, inr (y, h)) =
    and_from (is_low b) (every is_low (c ∷ s)) (either_low b 69 101 refl refl x) (and_from (is_low c) (every is_low s) (either_low c 43 45 refl refl y) (some_low is_digit digit_low s h))

may_low : (s : List ℕ) → MayBeExponent s → every is_low s ≡ true
may_low s (inl e) = rw e refl
may_low s (inr h) = exponent_low s h

number_low : (s : List ℕ) → IsNumber s → every is_low s ≡ true
number_low s (whole d h) = some_low is_digit digit_low d h
number_low s (hexadecimal {b = b} {d = d} x h) = and_from (is_low b) (every is_low d) (either_low b 88 120 refl refl x) (some_low is_hexadecimal hexadecimal_low d h)
number_low s (octal {b = b} {d = d} x h) = and_from (is_low b) (every is_low d) (either_low b 79 111 refl refl x) (some_low is_octal octal_low d h)
number_low s (pointed d f e h g m) = every_append d (46 ∷ (f ++ e)) (some_low is_digit digit_low d h) (every_append f e (each_low is_digit digit_low f g) (may_low e m))
number_low s (point_first d e h m) = every_append d e (some_low is_digit digit_low d h) (may_low e m)
number_low s (scaled d e h x) = every_append d e (some_low is_digit digit_low d h) (exponent_low e x)

keyword_low : (s : List ℕ) → is_keyword s ≡ true → every is_low s ≡ true
keyword_low s h = one_text (every is_low) keywords refl s h

mark_low : (s : List ℕ) → is_mark s ≡ true → every is_low s ≡ true
mark_low s h = one_text (every is_low) marks refl s h

-- a set of texts of ASCII
low_to : (P : List ℕ → Type 0) → ((s : List ℕ) → P s → every is_low s ≡ true) → (cs : List ℕ) → P (encodes cs) → P cs
low_to P f cs h = subst P (low_same cs (f (encodes cs) h)) h

low_from : (P : List ℕ → Type 0) → ((s : List ℕ) → P s → every is_low s ≡ true) → (cs : List ℕ) → P cs → P (encodes cs)
low_from P f cs h = subst P (sym (low_encodes cs (f cs h))) h

keyword_same : (cs : List ℕ) → is_keyword (encodes cs) ≡ is_keyword cs
keyword_same cs =
    elim (cases_Bool (is_keyword (encodes cs))) [
      | inl e ↦ e ∙ sym (low_to (λ s. is_keyword s ≡ true) keyword_low cs e)
      | inr e ↦ elim (cases_Bool (is_keyword cs)) [
        | inl f ↦ absurd (both_ways (is_keyword (encodes cs)) e (low_from (λ s. is_keyword s ≡ true) keyword_low cs f))
        | inr f ↦ e ∙ sym f
      ]
    ]

pub by_characters : ByCharacters
by_characters v.Name cs = (λ h. (words_to cs h.0, sym (keyword_same cs) ∙ h.1), λ h. (words_from cs h.0, keyword_same cs ∙ h.1))
by_characters v.Keyword cs = (low_to (λ s. is_keyword s ≡ true) keyword_low cs, low_from (λ s. is_keyword s ≡ true) keyword_low cs)
by_characters v.Number cs = (low_to IsNumber number_low cs, low_from IsNumber number_low cs)
by_characters v.String cs = (string_from cs, string_to cs)
by_characters v.Mark cs = (low_to (λ s. is_mark s ≡ true) mark_low cs, low_from (λ s. is_mark s ≡ true) mark_low cs)
by_characters v.Newline cs = (λ h. h, λ h. h)
by_characters v.End cs = (λ h. h, λ h. h)
