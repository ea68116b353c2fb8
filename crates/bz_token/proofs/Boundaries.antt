-- A token of a text in UTF-8 ends where a character does.
use Rattle.bz_token.proofs.Words.{[], ◌&&◌, ◌++◌, ◌+◌, ◌<◌, ◌||◌, ◌∙◌, ◌∷◌, ◌≡◌, ◌≤◌, ◌⊎◌, after, ap, append_assoc, arith, Bang, Bool, both_ways, cases_Bool, cases_lt, Class, Class as v, Closed, Double, drop, Empty, Ended, ends, eqb, Exponent, ExponentMark, ExponentSign, false, Fraction, get_or, get_or-append_seam, Greater, Hex, HexMark, High, HighMark, HighOther, inl, inr, is_digit, is_hexadecimal, is_high, is_letter, is_octal, IsCharBoundary, IsToken, IsUtf8, keyword_or_name, le-leb, lead_after_ascii, leb, leb-false, length, length-append, length-take-le, Less, List, lone_marks, Long, LongOne, LongTaken, LongTwo, move, nat_tests, ne_eqb, None, none-some, Oct, OctMark, Opened, Operator, operator_marks, Option, or_right, Point, PrefixB, PrefixBoth, PrefixR, Quote, quote_byte, quote_or_word, refl, same_Some, Short, ShortReturn, ShortTaken, Single, Slash, Some, Star, Start, State, subst, sym, take, take-append-drop, TokenAt, true, Whole, Word, word_move, Zero, ℕ}
use Rattle.bz_token.proofs.{Fronts.some_next, Fronts.after_append, Laws.state_of, Sound.sound, Tables.none_of, Tables.is_not}

-- no class but a Name ends in this state
abbrev only_name : Option Class → Bool
only_name None = true
only_name (Some v.Name) = true
only_name _ = false

abbrev only_names : Option State → Bool
only_names None = true
only_names (Some q) = only_name (ends q)

pub letter_high : (b : ℕ) → is_high b ≡ true → is_letter b ≡ true
letter_high b h =
    or_right (leb 65 b && leb b 90) ((leb 97 b && leb b 122) || (eqb b 95 || is_high b)) (or_right (leb 97 b && leb b 122) (eqb b 95 || is_high b) (or_right (eqb b 95) (is_high b) h))

-- a byte of a longer character is none of ASCII
pub no_digit : (b : ℕ) → is_high b ≡ true → is_digit b ≡ false
no_digit b h = grind (arith, nat_tests)

no_octal : (b : ℕ) → is_high b ≡ true → is_octal b ≡ false
no_octal b h = grind (arith, nat_tests)

no_hexadecimal : (b : ℕ) → is_high b ≡ true → is_hexadecimal b ≡ false
no_hexadecimal b h = grind (arith, nat_tests)

no_quote : (m : Quote) (b : ℕ) → is_high b ≡ true → eqb b (quote_byte m) ≡ false
no_quote Single b h = is_not is_high 39 refl b h
no_quote Double b h = is_not is_high 34 refl b h

word_stays : (b : ℕ) → is_high b ≡ true → only_names (word_move b) ≡ true
word_stays b h = elim (cases_Bool (eqb b 239)) [ inl e ↦ rw e refl | inr e ↦ rw (e, letter_high b h) refl ]

text_stays : (b : ℕ) → is_high b ≡ true → only_names (quote_or_word b) ≡ true
text_stays b h = rw (is_not is_high 34 refl b h, is_not is_high 39 refl b h) (word_stays b h)

start_stays : (b : ℕ) → is_high b ≡ true → only_names (move Start b) ≡ true
start_stays b h =
    let x = none_of is_high lone_marks refl b h in
    let y = none_of is_high operator_marks refl b h in
    let n = λ (m : ℕ) (e : is_high m ≡ false). is_not is_high m e b h in
    elim (cases_Bool (eqb b 239)) [
      | inl e ↦ rw (x, y, n 42 refl, n 47 refl, n 60 refl, n 62 refl, n 33 refl, n 48 refl, no_digit b h, n 46 refl, n 114 refl, n 98 refl, n 34 refl, n 39 refl, e) refl
      | inr e ↦ rw (x, y, n 42 refl, n 47 refl, n 60 refl, n 62 refl, n 33 refl, n 48 refl, no_digit b h, n 46 refl, n 114 refl, n 98 refl, n 34 refl, n 39 refl, e, letter_high b h) refl
    ]

high_stays : (q : State) (b : ℕ) → is_high b ≡ true → only_names (move q b) ≡ true
high_stays Start b h = start_stays b h
high_stays Word b h = word_stays b h
high_stays PrefixR b h = rw (is_not is_high 98 refl b h) (text_stays b h)
high_stays PrefixB b h = rw (is_not is_high 114 refl b h) (text_stays b h)
high_stays PrefixBoth b h = text_stays b h
high_stays High b h = elim (cases_Bool (eqb b 187)) [ inl e ↦ rw e refl | inr e ↦ rw (e, h) refl ]
high_stays HighMark b h = elim (cases_Bool (eqb b 191)) [ inl e ↦ rw e refl | inr e ↦ rw (e, h) refl ]
high_stays HighOther b h = rw h refl
high_stays Zero b h = rw (no_digit b h, is_not is_high 46 refl b h, is_not is_high 69 refl b h, is_not is_high 101 refl b h, is_not is_high 88 refl b h, is_not is_high 120 refl b h, is_not is_high 79 refl b h, is_not is_high 111 refl b h) refl
high_stays Whole b h = rw (no_digit b h, is_not is_high 46 refl b h, is_not is_high 69 refl b h, is_not is_high 101 refl b h) refl
high_stays HexMark b h = rw (no_hexadecimal b h) refl
high_stays Hex b h = rw (no_hexadecimal b h) refl
high_stays OctMark b h = rw (no_octal b h) refl
high_stays Oct b h = rw (no_octal b h) refl
high_stays Point b h = rw (no_digit b h) refl
high_stays Fraction b h = rw (no_digit b h, is_not is_high 69 refl b h, is_not is_high 101 refl b h) refl
high_stays ExponentMark b h = rw (no_digit b h, is_not is_high 43 refl b h, is_not is_high 45 refl b h) refl
high_stays ExponentSign b h = rw (no_digit b h) refl
high_stays Exponent b h = rw (no_digit b h) refl
high_stays (Opened m) b h = rw (no_quote m b h, is_not is_high 92 refl b h, is_not is_high 10 refl b h) refl
high_stays (Empty m) b h = rw (no_quote m b h) refl
high_stays (Short m) b h = rw (no_quote m b h, is_not is_high 92 refl b h, is_not is_high 10 refl b h) refl
high_stays (ShortTaken m) b h = rw (is_not is_high 13 refl b h) refl
high_stays (ShortReturn m) b h = rw (is_not is_high 10 refl b h, no_quote m b h, is_not is_high 92 refl b h) refl
high_stays (Long m) b h = rw (no_quote m b h, is_not is_high 92 refl b h) refl
high_stays (LongOne m) b h = rw (no_quote m b h, is_not is_high 92 refl b h) refl
high_stays (LongTwo m) b h = rw (no_quote m b h, is_not is_high 92 refl b h) refl
high_stays (LongTaken m) b h = refl
high_stays Closed b h = refl
high_stays Star b h = rw (is_not is_high 42 refl b h, is_not is_high 61 refl b h) refl
high_stays Slash b h = rw (is_not is_high 47 refl b h, is_not is_high 61 refl b h) refl
high_stays Less b h = rw (is_not is_high 60 refl b h, is_not is_high 61 refl b h) refl
high_stays Greater b h = rw (is_not is_high 62 refl b h, is_not is_high 61 refl b h) refl
high_stays Bang b h = rw (is_not is_high 61 refl b h) refl
high_stays Operator b h = rw (is_not is_high 61 refl b h) refl
high_stays Ended b h = refl

named_at : (k : Class) (o : Option Class) → o ≡ Some k → only_name o ≡ true → k ≡ v.Name
named_at k None e h = absurd (none-some k e)
named_at k (Some v.Name) e h = sym (same_Some v.Name k e)
named_at k (Some _) e h = absurd (both_ways false refl h)

-- the last byte of a lexeme is ASCII, or the lexeme is a Name
last_byte : (q r : State) (b : ℕ) (k : Class) → move q b ≡ Some r → ends r ≡ Some k → (b < 128) ⊎ (k ≡ v.Name)
last_byte q r b k e h =
    elim (cases_Bool (is_high b)) [
      | inl y ↦ let n : only_names (Some r) ≡ true = subst (λ (o : Option State). only_names o ≡ true) e (high_stays q b y) in inr (named_at k (ends r) h n)
      | inr y ↦ inl (leb-false 128 b y)
    ]

-- a Name goes on with each byte of a longer character but EF
name_goes_on : (q : State) (b : ℕ) → ends q ≡ Some v.Name → is_high b ≡ true → eqb b 239 ≡ false → move q b ≡ Some Word
name_goes_on Word b e h n = rw (n, letter_high b h) refl
name_goes_on PrefixR b e h n = rw (is_not is_high 98 refl b h, is_not is_high 34 refl b h, is_not is_high 39 refl b h, n, letter_high b h) refl
name_goes_on PrefixB b e h n = rw (is_not is_high 114 refl b h, is_not is_high 34 refl b h, is_not is_high 39 refl b h, n, letter_high b h) refl
name_goes_on PrefixBoth b e h n = rw (is_not is_high 34 refl b h, is_not is_high 39 refl b h, n, letter_high b h) refl
name_goes_on _ b e h n = absurd cc

last_step : (t : List ℕ) (b : ℕ) (p q : State) → after move p (b ∷ t) ≡ Some q → (front : List ℕ) × (a : ℕ) × (r : State) × (b ∷ t ≡ front ++ (a ∷ [])) × (move r a ≡ Some q)
last_step [] b p q e =
    let w = some_next (move p b) (λ r. after move r []) q e in
    ([], b, p, refl, w.1 ∙ w.2)
last_step (c ∷ t) b p q e =
    let w = some_next (move p b) (λ r. after move r (c ∷ t)) q e in
    let x = last_step t c (w.0) q w.2 in
    (b ∷ x.0, x.1, x.2, ap (λ (s : List ℕ). b ∷ s) x.3, x.4)

after_ascii : (f : List ℕ) (a : ℕ) (t r : List ℕ) (b : ℕ) → t ≡ f ++ (a ∷ []) → a < 128 → IsUtf8 (t ++ (b ∷ r)) → 128 ≤ b → b < 192 → ⊥
after_ascii f a t r b e n u l m =
    let s = t ++ (b ∷ r) in
    let long : length t ≡ length f + 1 = ap length e ∙ length-append f (a ∷ []) in
    let parts : s ≡ f ++ (a ∷ b ∷ r) = rw e (append_assoc f (a ∷ []) (b ∷ r)) in
    let here : get_or s (length f) 0 ≡ a = ap (λ (x : List ℕ). get_or x (length f) 0) parts ∙ get_or-append_seam f a (b ∷ r) 0 in
    let next : get_or s (length f + 1) 0 ≡ b = ap (λ (i : ℕ). get_or s i 0) (sym long) ∙ get_or-append_seam t b r 0 in
    let all : length s ≡ length t + length (b ∷ r) = length-append t (b ∷ r) in
    let k = lead_after_ascii s (length f) u (omega (arith, here, n)) (omega arith) (omega (arith, next, l)) in
    omega (arith, k, next, m)

-- no other byte of a character is after a token
not_inside : (c : Class) (t r : List ℕ) (b : ℕ) → IsToken c t (b ∷ r) → IsUtf8 (t ++ (b ∷ r)) → 128 ≤ b → b < 192 → ⊥
not_inside c [] r b h u l m =
    let w = state_of c [] h.lexeme in
    let i : Start ≡ w.0 = same_Some Start (w.0) w.2 in
    none-some (w.1) (ap ends i ∙ w.3)
not_inside c (a ∷ t) r b h u l m =
    let w = state_of c (a ∷ t) h.lexeme in
    let x = last_step t a Start (w.0) w.2 in
    elim (last_byte (x.2) (w.0) (x.1) (w.1) x.4 w.3) [
      | inl n ↦ after_ascii (x.0) (x.1) (a ∷ t) r b x.3 n u l m
      | inr n ↦
          let y : is_high b ≡ true = le-leb 128 b l in
          let z : eqb b 239 ≡ false = ne_eqb b 239 (λ e. absurd (omega arith)) in
          let s : move (w.0) b ≡ Some Word = name_goes_on (w.0) b (w.3 ∙ ap Some n) y z in
          let more : after move Start ((a ∷ t) ++ (b ∷ [])) ≡ Some Word = after_append move Start (w.0) (a ∷ t) (b ∷ []) w.2 ∙ rw s refl in
          let lexeme = sound v.Name ((a ∷ t) ++ (b ∷ [])) (rw more refl) in
          let k = h.longest (keyword_or_name v.Name ((a ∷ t) ++ (b ∷ []))) ((a ∷ t) ++ (b ∷ [])) r (append_assoc (a ∷ t) (b ∷ []) r) lexeme in
          absurd (omega (arith, k, length-append (a ∷ t) (b ∷ [])))
    ]

pub boundary : (c : Class) (t r : List ℕ) → IsToken c t r → IsUtf8 (t ++ r) → IsCharBoundary (t ++ r) (length t)
boundary c t [] h u = (omega (arith, length-append t []), λ l. absurd (omega (arith, l, length-append t [])))
boundary c t (b ∷ r) h u =
    let e : get_or (t ++ (b ∷ r)) (length t) 0 ≡ b = get_or-append_seam t b r 0 in (
      omega (arith, length-append t (b ∷ r)),
      λ l m. elim (cases_lt (get_or (t ++ (b ∷ r)) (length t) 0) 192) [
        | inl n ↦ absurd (not_inside c t r b h u (omega (arith, e, m)) (omega (arith, e, n)))
        | inr n ↦ n
      ],
    )

pub boundary_at : (c : Class) (n : ℕ) (s : List ℕ) → TokenAt c n s → IsUtf8 s → IsCharBoundary s n
boundary_at c n s h u =
    let e : take n s ++ drop n s ≡ s = take-append-drop n s in
    let l : length (take n s) ≡ n = length-take-le n s h.0 in
    let b = boundary c (take n s) (drop n s) h.1 (subst IsUtf8 (sym e) u) in
    subst (IsCharBoundary s) l (subst (λ (x : List ℕ). IsCharBoundary x (length (take n s))) e b)
