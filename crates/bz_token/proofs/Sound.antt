-- What the machine takes is a text of the class that it gives.
use Rattle.bz_token.proofs.Words.{[], ◌++◌, ◌||◌, ◌∙◌, ◌∷◌, ◌≡◌, ◌⊎◌, after, among, and_next, append-nil, arith, cases_Bool, Class, Class as v, Double, doubled_move, ends, eqb, eqb-true, false, Greater, hexadecimal, inl, inr, is_digit, is_keyword, is_letter, is_mark, is_prefix, IsLetters, IsLexeme, IsNumber, IsQuoted, IsString, IsWord, keyword_or_name, length, Less, List, lone_marks, mark_start, move, None, none, none-some, number_start, octal, one, Opened, operator_marks, Option, option_or, or_left, point_first, pointed, PrefixB, PrefixBoth, PrefixR, Quote, quote_byte, quote_or_word, reads, refl, same_Some, scaled, short_end, Single, single, Slash, Some, Start, State, subst, sym, text_start, triple, true, Whole, whole, Zero, ℕ}
use Rattle.bz_token.proofs.Strings.{quote_is}
use Rattle.bz_token.proofs.Tables.{one_of}
use Rattle.bz_token.proofs.Taken.{ended_reads, operator_reads, star_reads, bang_reads, doubled_reads, IsFraction, AfterDigit, whole_reads, AfterZero, zero_reads, point_reads, EndsShort, short_reads, EndsLong, long_reads, high_reads, three_letters, word_reads}

-- the class of a text after a state, if there is one
abbrev from : Option State → List ℕ → Option Class
from o s = and_next (and_next o (λ r. after move r s)) ends

-- ---- marks

mark_of : (b : ℕ) (s t : List ℕ) → s ≡ t → is_mark (b ∷ t) ≡ true → is_mark (b ∷ s) ≡ true
mark_of b s t e h = rw e h

mark_from : (b c : ℕ) (s t : List ℕ) → b ≡ c → s ≡ t → is_mark (c ∷ t) ≡ true → is_mark (b ∷ s) ≡ true
mark_from b c s t i e h = rw (i, e) h

-- after a mark that may occur twice
doubled_mark : (k : Class) (c : ℕ) (s : List ℕ) (x : State) → ends x ≡ Some v.Mark → ((b : ℕ) → move x b ≡ doubled_move c b)
    → (is_mark (c ∷ []) ≡ true) × (is_mark (c ∷ 61 ∷ []) ≡ true) × (is_mark (c ∷ c ∷ []) ≡ true) × (is_mark (c ∷ c ∷ 61 ∷ []) ≡ true)
    → reads x s ≡ Some k → (k ≡ v.Mark) × (is_mark (c ∷ s) ≡ true)
doubled_mark k c [] x e m t h = (sym (same_Some v.Mark k (sym e ∙ h)), t.0)
doubled_mark k c (b ∷ s) x e m t h =
    let w = doubled_reads k c b s (rw (m b) at h) in (
      w.0,
      elim w.1 [
        | inl i ↦ mark_of c (b ∷ s) (61 ∷ []) i t.1
        | inr i ↦ elim i [ inl j ↦ mark_of c (b ∷ s) (c ∷ []) j t.2 | inr j ↦ mark_of c (b ∷ s) (c ∷ 61 ∷ []) j t.3 ]
      ],
    )

mark_more : (k : Class) (b : ℕ) (s : List ℕ) → among b lone_marks ≡ false → among b operator_marks ≡ false → from (mark_start b) s ≡ Some k → (k ≡ v.Mark) × (is_mark (b ∷ s) ≡ true)
mark_more k b s e f h =
    elim (cases_Bool (eqb b 42)) [
      | inl g ↦
          let w = star_reads k s (rw (e, f, g) at h) in
          let i = eqb-true b 42 g in
          (w.0, elim w.1 [ inl z ↦ mark_from b 42 s [] i z refl | inr z ↦ elim z [ inl y ↦ mark_from b 42 s (42 ∷ []) i y refl | inr y ↦ mark_from b 42 s (61 ∷ []) i y refl ] ])
      | inr g ↦ elim (cases_Bool (eqb b 47)) [
        | inl m ↦
            let w = doubled_mark k 47 s Slash refl (λ b. refl) (refl, refl, refl, refl) (rw (e, f, g, m) at h) in
            (w.0, mark_from b 47 s s (eqb-true b 47 m) refl w.1)
        | inr m ↦ elim (cases_Bool (eqb b 60)) [
          | inl n ↦
              let w = doubled_mark k 60 s Less refl (λ b. refl) (refl, refl, refl, refl) (rw (e, f, g, m, n) at h) in
              (w.0, mark_from b 60 s s (eqb-true b 60 n) refl w.1)
          | inr n ↦ elim (cases_Bool (eqb b 62)) [
            | inl o ↦
                let w = doubled_mark k 62 s Greater refl (λ b. refl) (refl, refl, refl, refl) (rw (e, f, g, m, n, o) at h) in
                (w.0, mark_from b 62 s s (eqb-true b 62 o) refl w.1)
            | inr o ↦ elim (cases_Bool (eqb b 33)) [
              | inl p ↦ let w = bang_reads k s (rw (e, f, g, m, n, o, p) at h) in (w.0, mark_from b 33 s (61 ∷ []) (eqb-true b 33 p) w.1 refl)
              | inr p ↦ absurd (none-some k (rw (e, f, g, m, n, o, p) at h))
            ]
          ]
        ]
      ]
    ]

mark_sound : (k : Class) (b : ℕ) (s : List ℕ) → from (mark_start b) s ≡ Some k → (k ≡ v.Mark) × (is_mark (b ∷ s) ≡ true)
mark_sound k b s h =
    elim (cases_Bool (among b lone_marks)) [
      | inl e ↦ let w = ended_reads k s (rw e at h) in (w.0, mark_of b s [] w.1 (one_of (λ c. is_mark (c ∷ [])) lone_marks refl b e))
      | inr e ↦ elim (cases_Bool (among b operator_marks)) [
        | inl f ↦
            let w = operator_reads k s (rw (e, f) at h) in (
              w.0,
              elim w.1 [
                | inl z ↦ mark_of b s [] z (one_of (λ c. is_mark (c ∷ [])) operator_marks refl b f)
                | inr z ↦ mark_of b s (61 ∷ []) z (one_of (λ c. is_mark (c ∷ 61 ∷ [])) operator_marks refl b f)
              ],
            )
        | inr f ↦ mark_more k b s e f h
      ]
    ]

-- ---- numbers

-- a first digit and what is after it
from_digit : (b : ℕ) (s : List ℕ) → is_digit b ≡ true → AfterDigit s → IsNumber (b ∷ s)
from_digit b s y (d, e, is, h, inl (inl z)) = rw (is, z, append-nil) (whole (b ∷ d) (y, h))
from_digit b s y (d, e, is, h, inl (inr x)) = rw is (scaled (b ∷ d) e (y, h) x)
from_digit b s y (d, e, is, h, inr (f, i, (g, x, j, m, n))) = rw (is, i, j) (pointed (b ∷ d) g x (y, h) m n)

from_zero : (s : List ℕ) → AfterZero s → IsNumber (48 ∷ s)
from_zero [] h = whole (48 ∷ []) (refl, tt)
from_zero (b ∷ s) (inl h) = from_digit 48 (b ∷ s) refl h
from_zero (b ∷ s) (inr (inl (x, h))) = hexadecimal x h
from_zero (b ∷ s) (inr (inr (x, h))) = octal x h

from_point : (b : ℕ) (s : List ℕ) → is_digit b ≡ true → IsFraction s → IsNumber (46 ∷ b ∷ s)
from_point b s y (d, e, is, h, m) = rw is (point_first (b ∷ d) e (y, h) m)

number_at : (b c : ℕ) (s t : List ℕ) → b ≡ c → s ≡ t → IsNumber (c ∷ t) → IsNumber (b ∷ s)
number_at b c s t i e h = rw (i, e) h

number_sound : (k : Class) (b : ℕ) (s : List ℕ) → from (number_start b) s ≡ Some k → ((k ≡ v.Number) × IsNumber (b ∷ s)) ⊎ ((k ≡ v.Mark) × (is_mark (b ∷ s) ≡ true))
number_sound k b s h =
    elim (cases_Bool (eqb b 48)) [
      | inl e ↦ let w = zero_reads k s (rw e at h) in inl (w.0, number_at b 48 s s (eqb-true b 48 e) refl (from_zero s w.1))
      | inr e ↦ elim (cases_Bool (is_digit b)) [
        | inl d ↦ let w = whole_reads k s (rw (e, d) at h) in inl (w.0, from_digit b s d w.1)
        | inr d ↦ elim (cases_Bool (eqb b 46)) [
          | inl p ↦
              let i = eqb-true b 46 p in
              elim (point_reads k s (rw (e, d, p) at h)) [
                | inl w ↦ inr (w.0, mark_from b 46 s [] i w.1 refl)
                | inr w ↦ inl (w.0, number_at b 46 s (w.1 ∷ w.2) i w.3 (from_point (w.1) (w.2) w.4 w.5))
              ]
          | inr p ↦ absurd (none-some k (rw (e, d, p) at h))
        ]
      ]
    ]

-- ---- names and strings

quoted_at : (b c : ℕ) (s : List ℕ) → b ≡ c → IsQuoted (c ∷ s) → IsQuoted (b ∷ s)
quoted_at b c s i h = rw i h

quoted_short : (q : Quote) (s : List ℕ) → EndsShort q s → IsQuoted (quote_byte q ∷ s)
quoted_short q s (x, e, h) = rw e (single (quote_byte q) x (quote_is q) h)

quoted_empty : (q : Quote) (b : ℕ) → b ≡ quote_byte q → IsQuoted (quote_byte q ∷ b ∷ [])
quoted_empty q b i = quoted_short q (b ∷ []) ([], rw i refl, short_end)

quoted_long : (q : Quote) (b c : ℕ) (s : List ℕ) → b ≡ quote_byte q → c ≡ quote_byte q → EndsLong q 0 s → IsQuoted (quote_byte q ∷ b ∷ c ∷ s)
quoted_long q b c s i j (x, e, h) = rw (i, j, e) (triple (quote_byte q) x (quote_is q) h)

opened_reads : (q : Quote) (k : Class) (s : List ℕ) → reads (Opened q) s ≡ Some k → (k ≡ v.String) × IsQuoted (quote_byte q ∷ s)
opened_reads q k [] h = absurd (none-some k h)
opened_reads q k (b ∷ []) h =
    elim (cases_Bool (eqb b (quote_byte q))) [
      | inl e ↦ (sym (same_Some v.String k (rw e at h)), quoted_empty q b (eqb-true b (quote_byte q) e))
      | inr e ↦ let w = short_reads 1 q k (b ∷ []) (omega arith) (rw e (rw e at h)) in (w.0, quoted_short q (b ∷ []) w.1)
    ]
opened_reads q k (b ∷ c ∷ s) h =
    elim (cases_Bool (eqb b (quote_byte q))) [
      | inl e ↦ elim (cases_Bool (eqb c (quote_byte q))) [
        | inl f ↦ let w = (long_reads (length s) q k s (omega arith)).0 (rw (e, f) at h) in (w.0, quoted_long q b c s (eqb-true b (quote_byte q) e) (eqb-true c (quote_byte q) f) w.1)
        | inr f ↦ absurd (none-some k (rw (e, f) at h))
      ]
      | inr e ↦ let w = short_reads (length (b ∷ c ∷ s)) q k (b ∷ c ∷ s) (omega arith) (rw e (rw e at h)) in (w.0, quoted_short q (b ∷ c ∷ s) w.1)
    ]

quoted_or_word : (k : Class) (b : ℕ) (s : List ℕ) → from (quote_or_word b) s ≡ Some k → ((k ≡ v.String) × IsQuoted (b ∷ s)) ⊎ ((k ≡ v.Name) × IsLetters (b ∷ s))
quoted_or_word k b s h =
    elim (cases_Bool (eqb b 34)) [
      | inl e ↦ let w = opened_reads Double k s (rw e at h) in inl (w.0, quoted_at b 34 s (eqb-true b 34 e) w.1)
      | inr e ↦ elim (cases_Bool (eqb b 39)) [
        | inl f ↦ let w = opened_reads Single k s (rw (e, f) at h) in inl (w.0, quoted_at b 39 s (eqb-true b 39 f) w.1)
        | inr f ↦ inr (word_reads (length (b ∷ s)) k (b ∷ s) (omega arith) (rw (e, f) at h))
      ]
    ]

-- what is after the letters r of a prefix: more of a name, or perhaps more letters of the prefix and a quoted text
abbrev Prefixed : List ℕ → Class → List ℕ → Type 0
Prefixed r k s = ((k ≡ v.Name) × IsLetters s) ⊎ ((k ≡ v.String) × (p : List ℕ) × (t : List ℕ) × (s ≡ p ++ t) × (is_prefix (r ++ p) ≡ true) × IsQuoted t)

quoted_now : (r : List ℕ) (k : Class) (s : List ℕ) → is_prefix (r ++ []) ≡ true → ((k ≡ v.String) × IsQuoted s) ⊎ ((k ≡ v.Name) × IsLetters s) → Prefixed r k s
quoted_now r k s y (inl w) = inr (w.0, [], s, refl, y, w.1)
quoted_now r k s y (inr w) = inl w

both_reads : (r : List ℕ) (k : Class) (s : List ℕ) → is_prefix (r ++ []) ≡ true → reads PrefixBoth s ≡ Some k → Prefixed r k s
both_reads r k [] y h = inl (sym (same_Some v.Name k h), none)
both_reads r k (b ∷ s) y h = quoted_now r k (b ∷ s) y (quoted_or_word k b s h)

letter_at : (b c : ℕ) (s : List ℕ) → b ≡ c → (is_letter c || is_digit c) ≡ true → eqb c 239 ≡ false → IsLetters s → IsLetters (b ∷ s)
letter_at b c s i l e h = rw i (one l e h)

-- a letter of a prefix, and another one
one_before : (a c b : ℕ) (k : Class) (s : List ℕ) → b ≡ c → (is_letter c || is_digit c) ≡ true → eqb c 239 ≡ false → Prefixed (a ∷ c ∷ []) k s → Prefixed (a ∷ []) k (b ∷ s)
one_before a c b k s i l e (inl w) = inl (w.0, letter_at b c s i l e w.1)
one_before a c b k s i l e (inr (x, p, t, is, y, z)) = inr (x, c ∷ p, t, rw (i, is) refl, y, z)

prefix_r_reads : (k : Class) (s : List ℕ) → reads PrefixR s ≡ Some k → Prefixed (114 ∷ []) k s
prefix_r_reads k [] h = inl (sym (same_Some v.Name k h), none)
prefix_r_reads k (b ∷ s) h =
    elim (cases_Bool (eqb b 98)) [
      | inl e ↦ one_before 114 98 b k s (eqb-true b 98 e) refl refl (both_reads (114 ∷ 98 ∷ []) k s refl (rw e at h))
      | inr e ↦ quoted_now (114 ∷ []) k (b ∷ s) refl (quoted_or_word k b s (rw e at h))
    ]

prefix_b_reads : (k : Class) (s : List ℕ) → reads PrefixB s ≡ Some k → Prefixed (98 ∷ []) k s
prefix_b_reads k [] h = inl (sym (same_Some v.Name k h), none)
prefix_b_reads k (b ∷ s) h =
    elim (cases_Bool (eqb b 114)) [
      | inl e ↦ one_before 98 114 b k s (eqb-true b 114 e) refl refl (both_reads (98 ∷ 114 ∷ []) k s refl (rw e at h))
      | inr e ↦ quoted_now (98 ∷ []) k (b ∷ s) refl (quoted_or_word k b s (rw e at h))
    ]

abbrev NameOrString : Class → List ℕ → Type 0
NameOrString k s = ((k ≡ v.Name) × IsWord s) ⊎ ((k ≡ v.String) × IsString s)

with_prefix : (a b : ℕ) (k : Class) (s : List ℕ) → b ≡ a → is_digit a ≡ false → (is_letter a || is_digit a) ≡ true → eqb a 239 ≡ false → Prefixed (a ∷ []) k s → NameOrString k (b ∷ s)
with_prefix a b k s i d l e (inl w) = inl (w.0, (rw i d, letter_at b a s i l e w.1))
with_prefix a b k s i d l e (inr (x, p, t, is, y, z)) = inr (x, (a ∷ p, t, rw (i, is) refl, y, z))

no_prefix : (k : Class) (s : List ℕ) → (k ≡ v.String) × IsQuoted s → NameOrString k s
no_prefix k s w = inr (w.0, ([], s, refl, refl, w.1))

word_start : (k : Class) (b : ℕ) (s : List ℕ) → is_digit b ≡ false → eqb b 39 ≡ false → eqb b 114 ≡ false → eqb b 98 ≡ false → eqb b 34 ≡ false → from (text_start b) s ≡ Some k → NameOrString k (b ∷ s)
word_start k b s d m e f g h =
    elim (cases_Bool (eqb b 239)) [
      | inl n ↦
          let w = high_reads k s (rw (e, f, g, m, n) at h) in
          let x = word_reads (length w.2) k (w.2) (omega arith) w.7 in
          inl (x.0, (d, three_letters b (w.0) (w.1) s (w.2) (eqb-true b 239 n) w.3 w.4 w.5 w.6 x.1))
      | inr n ↦ elim (cases_Bool (is_letter b)) [
        | inl l ↦
            let x = word_reads (length s) k s (omega arith) (rw (e, f, g, m, n, l) at h) in
            inl (x.0, (d, one (or_left (is_letter b) (is_digit b) l) n x.1))
        | inr l ↦ absurd (none-some k (rw (e, f, g, m, n, l) at h))
      ]
    ]

text_sound : (k : Class) (b : ℕ) (s : List ℕ) → is_digit b ≡ false → from (text_start b) s ≡ Some k → NameOrString k (b ∷ s)
text_sound k b s d h =
    elim (cases_Bool (eqb b 114)) [
      | inl e ↦ with_prefix 114 b k s (eqb-true b 114 e) refl refl refl (prefix_r_reads k s (rw e at h))
      | inr e ↦ elim (cases_Bool (eqb b 98)) [
        | inl f ↦ with_prefix 98 b k s (eqb-true b 98 f) refl refl refl (prefix_b_reads k s (rw (e, f) at h))
        | inr f ↦ elim (cases_Bool (eqb b 34)) [
          | inl g ↦ let w = opened_reads Double k s (rw (e, f, g) at h) in no_prefix k (b ∷ s) (w.0, quoted_at b 34 s (eqb-true b 34 g) w.1)
          | inr g ↦ elim (cases_Bool (eqb b 39)) [
            | inl m ↦ let w = opened_reads Single k s (rw (e, f, g, m) at h) in no_prefix k (b ∷ s) (w.0, quoted_at b 39 s (eqb-true b 39 m) w.1)
            | inr m ↦ word_start k b s d m e f g h
          ]
        ]
      ]
    ]

-- ---- all texts

picked : (k : Class) (o p : Option State) (s : List ℕ) → from (option_or o p) s ≡ Some k → (from o s ≡ Some k) ⊎ ((o ≡ None) × (from p s ≡ Some k))
picked k (Some x) p s h = inl h
picked k None p s h = inr (refl, h)

no_digit : (b : ℕ) → option_or (mark_start b) (number_start b) ≡ None → is_digit b ≡ false
no_digit b h = elim (cases_Bool (is_digit b)) [ inl d ↦ absurd (some_number (mark_start b) b d h) | inr d ↦ d ]
  where
    some_number : (o : Option State) (b : ℕ) → is_digit b ≡ true → option_or o (number_start b) ≡ None → ⊥
    some_number (Some x) b d h = none-some x (sym h)
    some_number None b d h = elim (cases_Bool (eqb b 48)) [ inl e ↦ none-some Zero (sym (rw e at h)) | inr e ↦ none-some Whole (sym (rw (e, d) at h)) ]

name_is : (s : List ℕ) → IsWord s → IsLexeme (keyword_or_name v.Name s) s
name_is s h =
    elim (cases_Bool (is_keyword s)) [
      | inl e ↦ let i : v.Keyword ≡ keyword_or_name v.Name s = rw e refl in subst (λ (c : Class). IsLexeme c s) i e
      | inr e ↦ let i : v.Name ≡ keyword_or_name v.Name s = rw e refl in subst (λ (c : Class). IsLexeme c s) i (h, e)
    ]

pub sound : (k : Class) (s : List ℕ) → reads Start s ≡ Some k → IsLexeme (keyword_or_name k s) s
sound k [] h = absurd (none-some k h)
sound k (b ∷ s) h =
    let lexeme = λ (c : Class). IsLexeme (keyword_or_name c (b ∷ s)) (b ∷ s) in
    elim (picked k (option_or (mark_start b) (number_start b)) (text_start b) s h) [
      | inl g ↦ elim (picked k (mark_start b) (number_start b) s g) [
        | inl f ↦ let w = mark_sound k b s f in subst lexeme (sym w.0) w.1
        | inr f ↦ elim (number_sound k b s f.1) [ inl w ↦ subst lexeme (sym w.0) w.1 | inr w ↦ subst lexeme (sym w.0) w.1 ]
      ]
      | inr g ↦ elim (text_sound k b s (no_digit b g.0) g.1) [ inl w ↦ subst lexeme (sym w.0) (name_is (b ∷ s) w.1) | inr w ↦ subst lexeme (sym w.0) w.1 ]
    ]
