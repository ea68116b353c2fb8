-- The bytes of names are the bytes of letters, digits and `_`.
use Rattle.bz_token.proofs.Words.{[], ◌&&◌, ◌++◌, ◌+◌, ◌/◌, ◌<◌, ◌||◌, ◌∙◌, ◌∷◌, ◌≡◌, ◌≢◌, ◌≤◌, ◌⊎◌, and_from, and_parts, ap, arith, Bool, both_ways, cases_Bool, cases_eq, cases_lt, Each, encode, encode_ascii, encodes, eq-eqb, eqb, eqb-true, false, inl, inr, is_digit, is_high, is_letter, is_letter_character, IsLetters, IsWord, IsWordOfCharacters, le-leb, le-ltb, List, lt-ltb, ltb, nat_tests, ne_eqb, next, none, not, not_from_false, one, or_cases, or_left, or_right, refl, subst, sym, three, true, ℕ}
use Rattle.bz_token.proofs.{Taken.three_letters, Boundaries.letter_high, Boundaries.no_digit}

two_bytes : (c : ℕ) → 128 ≤ c → c < 2048 → encode c ≡ (192 + c / 64) ∷ next c ∷ []
unfolding encode
two_bytes c h l = rw (le-ltb c 128 h, lt-ltb c 2048 l) refl

three_bytes : (c : ℕ) → 2048 ≤ c → c < 65536 → encode c ≡ (224 + c / 4096) ∷ next (c / 64) ∷ next c ∷ []
unfolding encode
three_bytes c h l = let e : ltb c 128 ≡ false = le-ltb c 128 (omega arith) in rw (e, le-ltb c 2048 h, lt-ltb c 65536 l) refl

four_bytes : (c : ℕ) → 65536 ≤ c → encode c ≡ (240 + c / 262144) ∷ next (c / 4096) ∷ next (c / 64) ∷ next c ∷ []
unfolding encode
four_bytes c h =
    let e : ltb c 128 ≡ false = le-ltb c 128 (omega arith) in
    let f : ltb c 2048 ≡ false = le-ltb c 2048 (omega arith) in
    rw (e, f, le-ltb c 65536 h) refl

-- a byte of a longer character
high_one : (b : ℕ) (s : List ℕ) → 128 ≤ b → b ≢ 239 → IsLetters s → IsLetters (b ∷ s)
high_one b s h n i = one (or_left (is_letter b) (is_digit b) (letter_high b (le-leb 128 b h))) (ne_eqb b 239 n) i

is_next : (n : ℕ) → 128 ≤ next n
is_next n = omega arith

low_next : (n : ℕ) → next n ≢ 239
low_next n = λ e. omega arith

more_two : (c : ℕ) (s : List ℕ) → 128 ≤ c → c < 2048 → IsLetters s → IsLetters (encode c ++ s)
more_two c s h l i = rw (two_bytes c h l) (high_one (192 + c / 64) (next c ∷ s) (omega arith) (λ e. omega arith) (high_one (next c) s (is_next c) (low_next c) i))

no_mark : (c : ℕ) → c / 4096 ≡ 15 → c ≢ 65279 → (eqb (next (c / 64)) 187 && eqb (next c) 191) ≡ false
no_mark c k n =
    elim (cases_Bool (eqb (next (c / 64)) 187 && eqb (next c) 191)) [
      | inl e ↦
          let w = and_parts (eqb (next (c / 64)) 187) (eqb (next c) 191) e in
          let x : next (c / 64) ≡ 187 = eqb-true (next (c / 64)) 187 w.0 in
          let y : next c ≡ 191 = eqb-true (next c) 191 w.1 in
          absurd (n (omega arith))
      | inr e ↦ e
    ]

more_three : (c : ℕ) (s : List ℕ) → 2048 ≤ c → c < 65536 → c ≢ 65279 → IsLetters s → IsLetters (encode c ++ s)
more_three c s h l n i =
    elim (cases_eq (c / 4096) 15) [
      | inl k ↦ rw (three_bytes c h l) (three_letters (224 + c / 4096) (next (c / 64)) (next c) (next (c / 64) ∷ next c ∷ s) s (omega arith) refl (le-leb 128 (next (c / 64)) (is_next (c / 64))) (le-leb 128 (next c) (is_next c)) (no_mark c k n) i)
      | inr k ↦ rw (three_bytes c h l) (high_one (224 + c / 4096) (next (c / 64) ∷ next c ∷ s) (omega arith) (λ e. omega (arith, k)) (high_one (next (c / 64)) (next c ∷ s) (is_next (c / 64)) (low_next (c / 64)) (high_one (next c) s (is_next c) (low_next c) i)))
    ]

more_four : (c : ℕ) (s : List ℕ) → 65536 ≤ c → IsLetters s → IsLetters (encode c ++ s)
more_four c s h i =
    rw (four_bytes c h) (high_one (240 + c / 262144) (next (c / 4096) ∷ next (c / 64) ∷ next c ∷ s) (omega arith) (λ e. omega arith) (high_one (next (c / 4096)) (next (c / 64) ∷ next c ∷ s) (is_next (c / 4096)) (low_next (c / 4096)) (high_one (next (c / 64)) (next c ∷ s) (is_next (c / 64)) (low_next (c / 64)) (high_one (next c) s (is_next c) (low_next c) i))))

no_mark_character : (c : ℕ) → (is_letter_character c || is_digit c) ≡ true → c ≢ 65279
no_mark_character c l = λ e. both_ways false refl (subst (λ (x : ℕ). (is_letter_character x || is_digit x) ≡ true) e l)

as_byte : (c : ℕ) → (is_letter_character c || is_digit c) ≡ true → (is_letter c || is_digit c) ≡ true
as_byte c l =
    elim (or_cases (is_letter_character c) (is_digit c) l) [
      | inl w ↦ or_left (is_letter c) (is_digit c) (and_parts (is_letter c) (not (eqb c 65279)) w).0
      | inr w ↦ or_right (is_letter c) (is_digit c) w
    ]

more_letters : (c : ℕ) (s : List ℕ) → (is_letter_character c || is_digit c) ≡ true → IsLetters s → IsLetters (encode c ++ s)
more_letters c s l i =
    elim (cases_lt c 128) [
      | inl a ↦ rw (encode_ascii c a) (one (as_byte c l) (ne_eqb c 239 (λ e. absurd (omega arith))) i)
      | inr a ↦ elim (cases_lt c 2048) [
        | inl b ↦ more_two c s a b i
        | inr b ↦ elim (cases_lt c 65536) [ inl d ↦ more_three c s b d (no_mark_character c l) i | inr d ↦ more_four c s d i ]
      ]
    ]

-- ---- the other way

one_less : (b : ℕ) (s : List ℕ) → IsLetters (b ∷ s) → eqb b 239 ≡ false → ((is_letter b || is_digit b) ≡ true) × IsLetters s
one_less b s (one l e h) n = (l, h)
one_less b s (three x y m h) n = absurd (both_ways true n refl)

three_less : (a b c : ℕ) (s : List ℕ) → IsLetters (a ∷ b ∷ c ∷ s) → eqb a 239 ≡ true → ((eqb b 187 && eqb c 191) ≡ false) × IsLetters s
three_less a b c s (one l e h) n = absurd (both_ways (eqb a 239) e n)
three_less a b c s (three x y m h) n = (m, h)

peel : (b : ℕ) (s : List ℕ) → b ≢ 239 → IsLetters (b ∷ s) → IsLetters s
peel b s n i = (one_less b s i (ne_eqb b 239 n)).1

peel_three : (c : ℕ) (s : List ℕ) → 2048 ≤ c → c < 65536 → IsLetters (encode c ++ s) → (c ≢ 65279) × IsLetters s
peel_three c s h l i =
    let bytes : IsLetters ((224 + c / 4096) ∷ next (c / 64) ∷ next c ∷ s) = rw (three_bytes c h l) at i in
    elim (cases_eq (c / 4096) 15) [
      | inl k ↦
          let w = three_less (224 + c / 4096) (next (c / 64)) (next c) s bytes (eq-eqb (224 + c / 4096) 239 (omega arith)) in
          (λ e. both_ways true (subst (λ (x : ℕ). (eqb (next (x / 64)) 187 && eqb (next x) 191) ≡ false) e w.0) refl, w.1)
      | inr k ↦
          (λ e. k (subst (λ (x : ℕ). x / 4096 ≡ 15) (sym e) refl), peel (next c) s (low_next c) (peel (next (c / 64)) (next c ∷ s) (low_next (c / 64)) (peel (224 + c / 4096) (next (c / 64) ∷ next c ∷ s) (λ e. k (omega arith)) bytes)))
    ]

less_high : (c : ℕ) (s : List ℕ) → 128 ≤ c → IsLetters (encode c ++ s) → (c ≢ 65279) × IsLetters s
less_high c s a i =
    elim (cases_lt c 2048) [
      | inl b ↦ (λ e. absurd (omega arith), peel (next c) s (low_next c) (peel (192 + c / 64) (next c ∷ s) (λ e. absurd (omega arith)) (rw (two_bytes c a b) at i)))
      | inr b ↦ elim (cases_lt c 65536) [
        | inl d ↦ peel_three c s b d i
        | inr d ↦
            (λ e. absurd (omega arith), peel (next c) s (low_next c) (peel (next (c / 64)) (next c ∷ s) (low_next (c / 64)) (peel (next (c / 4096)) (next (c / 64) ∷ next c ∷ s) (low_next (c / 4096)) (peel (240 + c / 262144) (next (c / 4096) ∷ next (c / 64) ∷ next c ∷ s) (λ e. absurd (omega arith)) (rw (four_bytes c d) at i)))))
      ]
    ]

letter_character : (c : ℕ) → c ≢ 65279 → (is_letter c || is_digit c) ≡ true → (is_letter_character c || is_digit c) ≡ true
letter_character c n l =
    elim (or_cases (is_letter c) (is_digit c) l) [
      | inl w ↦ or_left (is_letter_character c) (is_digit c) (and_from (is_letter c) (not (eqb c 65279)) w (not_from_false (eqb c 65279) (ne_eqb c 65279 n)))
      | inr w ↦ or_right (is_letter_character c) (is_digit c) w
    ]

less_letters : (c : ℕ) (s : List ℕ) → IsLetters (encode c ++ s) → ((is_letter_character c || is_digit c) ≡ true) × IsLetters s
less_letters c s i =
    elim (cases_lt c 128) [
      | inl a ↦
          let w = one_less c s (rw (encode_ascii c a) at i) (ne_eqb c 239 (λ e. absurd (omega arith))) in
          (letter_character c (λ e. absurd (omega arith)) w.0, w.1)
      | inr a ↦
          let w = less_high c s a i in
          (letter_character c w.0 (or_left (is_letter c) (is_digit c) (letter_high c (le-leb 128 c a))), w.1)
    ]

abbrev goes_on : ℕ → Bool
goes_on c = is_letter_character c || is_digit c

each_more : (cs : List ℕ) → Each goes_on cs → IsLetters (encodes cs)
each_more [] h = none
each_more (c ∷ cs) h = more_letters c (encodes cs) h.0 (each_more cs h.1)

each_less : (cs : List ℕ) → IsLetters (encodes cs) → Each goes_on cs
each_less [] i = tt
each_less (c ∷ cs) i = let w = less_letters c (encodes cs) i in (w.0, each_less cs w.1)

-- the bytes of a character: itself, or bytes from 128 on
abbrev pub BytesOf : ℕ → ℕ → List ℕ → Type 0
BytesOf c b t = (encode c ≡ b ∷ t) × Each is_high t × (((c < 128) × (b ≡ c) × (t ≡ [])) ⊎ ((is_high c ≡ true) × (is_high b ≡ true)))

is_next_high : (n : ℕ) → is_high (next n) ≡ true
is_next_high n = le-leb 128 (next n) (is_next n)

pub bytes_of : (c : ℕ) → (b : ℕ) × (t : List ℕ) × BytesOf c b t
bytes_of c =
    elim (cases_lt c 128) [
      | inl a ↦ (c, [], (encode_ascii c a, tt, inl (a, refl, refl)))
      | inr a ↦ elim (cases_lt c 2048) [
        | inl b ↦ (192 + c / 64, next c ∷ [], (two_bytes c a b, (is_next_high c, tt), inr (le-leb 128 c a, le-leb 128 (192 + c / 64) (omega arith))))
        | inr b ↦ elim (cases_lt c 65536) [
          | inl d ↦ (224 + c / 4096, next (c / 64) ∷ next c ∷ [], (three_bytes c b d, (is_next_high (c / 64), (is_next_high c, tt)), inr (le-leb 128 c a, le-leb 128 (224 + c / 4096) (omega arith))))
          | inr d ↦ (240 + c / 262144, next (c / 4096) ∷ next (c / 64) ∷ next c ∷ [], (four_bytes c d, (is_next_high (c / 4096), (is_next_high (c / 64), (is_next_high c, tt))), inr (le-leb 128 c a, le-leb 128 (240 + c / 262144) (omega arith))))
        ]
      ]
    ]

-- the first byte is a digit just where the character is
first_byte : (c : ℕ) (s : List ℕ) → (b : ℕ) × (t : List ℕ) × (encode c ++ s ≡ b ∷ t) × (is_digit b ≡ is_digit c)
first_byte c s =
    let w = bytes_of c in
    let x = w.2 in
    (w.0, w.1 ++ s, ap (λ (u : List ℕ). u ++ s) x.0, elim x.2 [ inl y ↦ ap is_digit y.1 | inr y ↦ no_digit (w.0) y.1 ∙ sym (no_digit c y.0) ])

letter_no_digit : (c : ℕ) → is_letter c ≡ true → is_digit c ≡ false
letter_no_digit c h = grind (arith, nat_tests)

to_characters : (c : ℕ) (cs s : List ℕ) (b : ℕ) (t : List ℕ) → s ≡ encode c ++ encodes cs → s ≡ b ∷ t → is_digit b ≡ is_digit c → IsWord s → IsWordOfCharacters (c ∷ cs)
to_characters c cs s b t e i d h =
    let w : IsWord (b ∷ t) = subst IsWord i h in
    let l : IsLetters (encode c ++ encodes cs) = subst IsLetters (sym i ∙ e) w.1 in
    let x = less_letters c (encodes cs) l in
    (elim (or_cases (is_letter_character c) (is_digit c) x.0) [ inl y ↦ y | inr y ↦ absurd (both_ways (is_digit c) (sym d ∙ w.0) y) ], each_less cs x.1)

from_characters : (c : ℕ) (cs s : List ℕ) (b : ℕ) (t : List ℕ) → s ≡ encode c ++ encodes cs → s ≡ b ∷ t → is_digit b ≡ is_digit c → IsWordOfCharacters (c ∷ cs) → IsWord s
from_characters c cs s b t e i d h =
    let l : IsLetters (encode c ++ encodes cs) = more_letters c (encodes cs) (or_left (is_letter_character c) (is_digit c) h.0) (each_more cs h.1) in
    let n = letter_no_digit c (and_parts (is_letter c) (not (eqb c 65279)) h.0).0 in
    subst IsWord (sym i) (d ∙ n, subst IsLetters (sym e ∙ i) l)

pub words_to : (cs : List ℕ) → IsWord (encodes cs) → IsWordOfCharacters cs
words_to [] h = h
words_to (c ∷ cs) h =
    let w = first_byte c (encodes cs) in
    to_characters c cs (encode c ++ encodes cs) (w.0) (w.1) refl w.2 w.3 h

pub words_from : (cs : List ℕ) → IsWordOfCharacters cs → IsWord (encodes cs)
words_from [] h = h
words_from (c ∷ cs) h =
    let w = first_byte c (encodes cs) in
    from_characters c cs (encode c ++ encodes cs) (w.0) (w.1) refl w.2 w.3 h
