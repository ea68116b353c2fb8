-- The machine ends inside a string exactly where one begins that is not closed.
use Rattle.bz_token.proofs.Words.{[], ◌++◌, ◌+◌, ◌<◌, ◌||◌, ◌∙◌, ◌∷◌, ◌≡◌, ◌≤◌, add-one, after, among, and_next, and_parts, ap, append_assoc, arith, Bang, before_third, Bool, both_ways, cases_Bool, Class, Class as v, Closed, Double, drop, drop-cons, drop_of_length-le, Empty, Ended, ends, eqb, eqb-true, Exponent, ExponentMark, ExponentSign, false, Fraction, get_or, Greater, Hex, HexMark, High, HighMark, HighOther, if◌then◌else◌, inl, inr, is_digit, is_e, is_hexadecimal, is_high, is_in_string, is_letter, is_o, is_octal, is_prefix, is_quote, is_sign, is_x, IsString, IsToken, IsTrue, keyword_or_name, length, Less, List, lone_marks, Long, LongOne, LongTaken, LongTwo, mark_start, move, None, none-some, NoToken, number_start, Oct, OctMark, Opened, OpensAfterPrefix, OpensString, Operator, operator_marks, Option, option_or, Point, PrefixB, PrefixBoth, prefixes, PrefixR, Quote, quote_byte, reads, refl, same_Some, Short, ShortReturn, ShortTaken, Single, Slash, Some, Star, Start, State, subst, suc, sym, text_start, true, Whole, Word, word_move, Zero, ℕ}
use Rattle.bz_token.proofs.{Complete.is_class_1, Complete.at_1, Fronts.longer, Fronts.same_front, Fronts.rest_same, Fronts.some_next, Laws.state_of, Laws.Stops, Laws.longest_at, Laws.begins, Sound.sound, Strings.quote_of, Strings.quote_is, Strings.itself, Strings.prefix_opens, Strings.prefixed, Strings.empty_state, Strings.string_state, Tables.every, Tables.one_text, Tokens.third_at, Tokens.third_parts}

-- ---- the state in which the machine goes no further

abbrev or_stay : State → Option State → (State → State) → State
or_stay q None f = q
or_stay q (Some r) f = f r

abbrev pub last_state : State → List ℕ → State
last_state q [] = q
last_state q (b ∷ s) = or_stay q (move q b) (λ r. last_state r s)

last_append : (q r : State) (t u : List ℕ) → after move q t ≡ Some r → last_state q (t ++ u) ≡ last_state r u
last_append q r [] u e = ap (λ (x : State). last_state x u) (same_Some q r e)
last_append q r (b ∷ t) u e = let w = some_next (move q b) (λ p. after move p t) r e in rw w.1 (last_append w.0 r t u w.2)

-- the front that it takes
abbrev Taken : State → List ℕ → State → Type 0
Taken q s l = (t : List ℕ) × (u : List ℕ) × (s ≡ t ++ u) × (after move q t ≡ Some l) × Stops l u

taken_by : (q : State) (b : ℕ) (s : List ℕ) (o : Option State) → move q b ≡ o → ((r : State) → Taken r s (last_state r s)) → Taken q (b ∷ s) (or_stay q o (λ r. last_state r s))
taken_by q b s None e f = ([], b ∷ s, refl, refl, e)
taken_by q b s (Some r) e f = let w = f r in (b ∷ w.0, w.1, ap (λ (x : List ℕ). b ∷ x) w.2, rw e w.3, w.4)

taken : (q : State) (s : List ℕ) → Taken q s (last_state q s)
taken q [] = ([], [], refl, refl, tt)
taken q (b ∷ s) = taken_by q b s (move q b) refl (λ r. taken r s)

-- ---- sets of states that the machine does not leave

abbrev goes_to : (State → Bool) → Option State → Bool
goes_to p None = true
goes_to p (Some q) = p q

pick : (p : State → Bool) (t : Bool) (a b : Option State) → goes_to p a ≡ true → goes_to p b ≡ true → goes_to p (if t then a else b) ≡ true
pick p true a b h k = h
pick p false a b h k = k

-- the first of some choices
abbrev choice : List (Bool × Option State) → Option State
choice [] = None
choice (x ∷ xs) = if x.0 then x.1 else choice xs

chosen : (p : State → Bool) (xs : List (Bool × Option State)) → every (λ x. goes_to p (x.1)) xs ≡ true → goes_to p (choice xs) ≡ true
chosen p [] h = refl
chosen p (x ∷ xs) h = let w = and_parts (goes_to p (x.1)) (every (λ y. goes_to p (y.1)) xs) h in pick p (x.0) (x.1) (choice xs) w.0 (chosen p xs w.1)

module _ (p : State → Bool) (closed : (q : State) (b : ℕ) → p q ≡ true → goes_to p (move q b) ≡ true) where
  stays_by : (q : State) (o : Option State) (f : State → State) → p q ≡ true → goes_to p o ≡ true → ((r : State) → p r ≡ true → p (f r) ≡ true) → p (or_stay q o f) ≡ true
  stays_by q None f h k g = h
  stays_by q (Some r) f h k g = g r k

  stays : (q : State) (s : List ℕ) → p q ≡ true → p (last_state q s) ≡ true
  stays q [] h = h
  stays q (b ∷ s) h = stays_by q (move q b) (λ r. last_state r s) h (closed q b h) (λ r k. stays r s k)

  goes_on : (q : State) (s : List ℕ) → p q ≡ true → goes_to p (after move q s) ≡ true
  goes_on q [] h = h
  goes_on q (b ∷ s) h = by_next (move q b) (closed q b h) (λ r k. goes_on r s k)
    where
      by_next : (o : Option State) → goes_to p o ≡ true → ((r : State) → p r ≡ true → goes_to p (after move r s) ≡ true) → goes_to p (and_next o (λ r. after move r s)) ≡ true
      by_next None k g = refl
      by_next (Some r) k g = g r k

-- from these states no string is begun
abbrev quiet : State → Bool
quiet Start = false
quiet PrefixR = false
quiet PrefixB = false
quiet PrefixBoth = false
quiet (Opened m) = false
quiet (Empty m) = false
quiet (Short m) = false
quiet (ShortTaken m) = false
quiet (ShortReturn m) = false
quiet (Long m) = false
quiet (LongOne m) = false
quiet (LongTwo m) = false
quiet (LongTaken m) = false
quiet _ = true

quiet_word : (b : ℕ) → goes_to quiet (word_move b) ≡ true
quiet_word b = chosen quiet ((eqb b 239, Some High) ∷ (is_letter b || is_digit b, Some Word) ∷ []) refl

quiet_more : (q : State) (b : ℕ) → quiet q ≡ true → goes_to quiet (move q b) ≡ true
quiet_more Start b h = absurd (both_ways false refl h)
quiet_more PrefixR b h = absurd (both_ways false refl h)
quiet_more PrefixB b h = absurd (both_ways false refl h)
quiet_more PrefixBoth b h = absurd (both_ways false refl h)
quiet_more (Opened m) b h = absurd (both_ways false refl h)
quiet_more (Empty m) b h = absurd (both_ways false refl h)
quiet_more (Short m) b h = absurd (both_ways false refl h)
quiet_more (ShortTaken m) b h = absurd (both_ways false refl h)
quiet_more (ShortReturn m) b h = absurd (both_ways false refl h)
quiet_more (Long m) b h = absurd (both_ways false refl h)
quiet_more (LongOne m) b h = absurd (both_ways false refl h)
quiet_more (LongTwo m) b h = absurd (both_ways false refl h)
quiet_more (LongTaken m) b h = absurd (both_ways false refl h)
quiet_more Word b h = quiet_word b
quiet_more High b h = chosen quiet ((eqb b 187, Some HighMark) ∷ (is_high b, Some HighOther) ∷ []) refl
quiet_more HighMark b h = chosen quiet ((eqb b 191, None) ∷ (is_high b, Some Word) ∷ []) refl
quiet_more HighOther b h = chosen quiet ((is_high b, Some Word) ∷ []) refl
quiet_more Zero b h = chosen quiet ((is_digit b, Some Whole) ∷ (eqb b 46, Some Fraction) ∷ (is_e b, Some ExponentMark) ∷ (is_x b, Some HexMark) ∷ (is_o b, Some OctMark) ∷ []) refl
quiet_more Whole b h = chosen quiet ((is_digit b, Some Whole) ∷ (eqb b 46, Some Fraction) ∷ (is_e b, Some ExponentMark) ∷ []) refl
quiet_more HexMark b h = chosen quiet ((is_hexadecimal b, Some Hex) ∷ []) refl
quiet_more Hex b h = chosen quiet ((is_hexadecimal b, Some Hex) ∷ []) refl
quiet_more OctMark b h = chosen quiet ((is_octal b, Some Oct) ∷ []) refl
quiet_more Oct b h = chosen quiet ((is_octal b, Some Oct) ∷ []) refl
quiet_more Point b h = chosen quiet ((is_digit b, Some Fraction) ∷ []) refl
quiet_more Fraction b h = chosen quiet ((is_digit b, Some Fraction) ∷ (is_e b, Some ExponentMark) ∷ []) refl
quiet_more ExponentMark b h = chosen quiet ((is_digit b, Some Exponent) ∷ (is_sign b, Some ExponentSign) ∷ []) refl
quiet_more ExponentSign b h = chosen quiet ((is_digit b, Some Exponent) ∷ []) refl
quiet_more Exponent b h = chosen quiet ((is_digit b, Some Exponent) ∷ []) refl
quiet_more Closed b h = refl
quiet_more Star b h = chosen quiet ((eqb b 42 || eqb b 61, Some Ended) ∷ []) refl
quiet_more Slash b h = chosen quiet ((eqb b 47, Some Operator) ∷ (eqb b 61, Some Ended) ∷ []) refl
quiet_more Less b h = chosen quiet ((eqb b 60, Some Operator) ∷ (eqb b 61, Some Ended) ∷ []) refl
quiet_more Greater b h = chosen quiet ((eqb b 62, Some Operator) ∷ (eqb b 61, Some Ended) ∷ []) refl
quiet_more Bang b h = chosen quiet ((eqb b 61, Some Ended) ∷ []) refl
quiet_more Operator b h = chosen quiet ((eqb b 61, Some Ended) ∷ []) refl
quiet_more Ended b h = refl

quiet_out : (q : State) → quiet q ≡ true → is_in_string q ≡ false
quiet_out (Opened m) h = absurd (both_ways false refl h)
quiet_out (Short m) h = absurd (both_ways false refl h)
quiet_out (ShortTaken m) h = absurd (both_ways false refl h)
quiet_out (ShortReturn m) h = absurd (both_ways false refl h)
quiet_out (Long m) h = absurd (both_ways false refl h)
quiet_out (LongOne m) h = absurd (both_ways false refl h)
quiet_out (LongTwo m) h = absurd (both_ways false refl h)
quiet_out (LongTaken m) h = absurd (both_ways false refl h)
quiet_out _ h = refl

-- a string is begun, and perhaps closed
abbrev inside : State → Bool
inside (Empty m) = true
inside Closed = true
inside q = is_in_string q

-- after a mark, a backslash, a newline and another byte of a string with single marks
abbrev short_choice : Quote → ℕ → List (Bool × Option State)
short_choice m b = (eqb b (quote_byte m), Some Closed) ∷ (eqb b 92, Some (ShortTaken m)) ∷ (eqb b 10, None) ∷ (true, Some (Short m)) ∷ []

abbrev long_choice : State → Quote → ℕ → List (Bool × Option State)
long_choice r m b = (eqb b (quote_byte m), Some r) ∷ (eqb b 92, Some (LongTaken m)) ∷ (true, Some (Long m)) ∷ []

inside_more : (q : State) (b : ℕ) → inside q ≡ true → goes_to inside (move q b) ≡ true
inside_more (Opened m) b h = chosen inside ((eqb b (quote_byte m), Some (Empty m)) ∷ short_choice m b) refl
inside_more (Empty m) b h = chosen inside ((eqb b (quote_byte m), Some (Long m)) ∷ []) refl
inside_more (Short m) b h = chosen inside (short_choice m b) refl
inside_more (ShortTaken m) b h = chosen inside ((eqb b 13, Some (ShortReturn m)) ∷ (true, Some (Short m)) ∷ []) refl
inside_more (ShortReturn m) b h = chosen inside ((eqb b 10, Some (Short m)) ∷ short_choice m b) refl
inside_more (Long m) b h = chosen inside (long_choice (LongOne m) m b) refl
inside_more (LongOne m) b h = chosen inside (long_choice (LongTwo m) m b) refl
inside_more (LongTwo m) b h = chosen inside (long_choice Closed m b) refl
inside_more (LongTaken m) b h = refl
inside_more Closed b h = refl
inside_more _ b h = absurd (both_ways false refl h)

-- what ends there is a string
inside_ends : (q : State) (k : Class) → inside q ≡ true → ends q ≡ Some k → k ≡ v.String
inside_ends (Opened m) k h e = absurd (none-some k e)
inside_ends (Empty m) k h e = sym (same_Some v.String k e)
inside_ends (Short m) k h e = absurd (none-some k e)
inside_ends (ShortTaken m) k h e = absurd (none-some k e)
inside_ends (ShortReturn m) k h e = absurd (none-some k e)
inside_ends (Long m) k h e = absurd (none-some k e)
inside_ends (LongOne m) k h e = absurd (none-some k e)
inside_ends (LongTwo m) k h e = absurd (none-some k e)
inside_ends (LongTaken m) k h e = absurd (none-some k e)
inside_ends Closed k h e = sym (same_Some v.String k e)
inside_ends _ k h e = absurd (both_ways false refl h)

closed_ends : (q : State) → inside q ≡ true → is_in_string q ≡ false → ends q ≡ Some v.String
closed_ends (Empty m) h k = refl
closed_ends Closed h k = refl
closed_ends (Opened m) h k = absurd (both_ways true k refl)
closed_ends (Short m) h k = absurd (both_ways true k refl)
closed_ends (ShortTaken m) h k = absurd (both_ways true k refl)
closed_ends (ShortReturn m) h k = absurd (both_ways true k refl)
closed_ends (Long m) h k = absurd (both_ways true k refl)
closed_ends (LongOne m) h k = absurd (both_ways true k refl)
closed_ends (LongTwo m) h k = absurd (both_ways true k refl)
closed_ends (LongTaken m) h k = absurd (both_ways true k refl)
closed_ends _ h k = absurd (both_ways false refl h)

-- ---- a prefix and a mark are in front

-- of what is after the letters r of a prefix
abbrev Marked : List ℕ → List ℕ → Type 0
Marked r s = (p : List ℕ) × (m : ℕ) × (u : List ℕ) × (s ≡ p ++ (m ∷ u)) × (is_prefix (r ++ p) ≡ true) × (is_quote m ≡ true)

-- a state outside strings, and quiet ones after it
out : (q : State) (o : Option State) (u : List ℕ) → is_in_string q ≡ false → goes_to quiet o ≡ true → is_in_string (or_stay q o (λ r. last_state r u)) ≡ false
out q None u h k = h
out q (Some r) u h k = quiet_out (last_state r u) (stays quiet quiet_more r u k)

mark_begins : (q : State) (b : ℕ) (o : Option State) (u : List ℕ) → is_in_string q ≡ false → goes_to quiet o ≡ true
    → is_in_string (or_stay q (if eqb b 34 then Some (Opened Double) else (if eqb b 39 then Some (Opened Single) else o)) (λ r. last_state r u)) ≡ true → is_quote b ≡ true
mark_begins q b o u n k h =
    elim (cases_Bool (eqb b 34)) [
      | inl e ↦ rw e refl
      | inr e ↦ elim (cases_Bool (eqb b 39)) [
        | inl f ↦ rw (e, f) refl
        | inr f ↦ absurd (both_ways (is_in_string (or_stay q o (λ r. last_state r u))) (out q o u n k) (rw (e, f) at h))
      ]
    ]

after_both : (r u : List ℕ) → is_prefix (r ++ []) ≡ true → is_in_string (last_state PrefixBoth u) ≡ true → Marked r u
after_both r [] y h = absurd (both_ways false refl h)
after_both r (b ∷ u) y h = ([], b, u, refl, y, mark_begins PrefixBoth b (word_move b) u refl (quiet_word b) h)

one_more : (a c b : ℕ) (u : List ℕ) → b ≡ c → Marked (a ∷ c ∷ []) u → Marked (a ∷ []) (b ∷ u)
one_more a c b u e w = (c ∷ w.0, w.1, w.2, rw (e, w.3) refl, w.4, w.5)

after_r : (u : List ℕ) → is_in_string (last_state PrefixR u) ≡ true → Marked (114 ∷ []) u
after_r [] h = absurd (both_ways false refl h)
after_r (b ∷ u) h =
    elim (cases_Bool (eqb b 98)) [
      | inl e ↦ one_more 114 98 b u (eqb-true b 98 e) (after_both (114 ∷ 98 ∷ []) u refl (rw e at h))
      | inr e ↦ ([], b, u, refl, refl, mark_begins PrefixR b (word_move b) u refl (quiet_word b) (rw e at h))
    ]

after_b : (u : List ℕ) → is_in_string (last_state PrefixB u) ≡ true → Marked (98 ∷ []) u
after_b [] h = absurd (both_ways false refl h)
after_b (b ∷ u) h =
    elim (cases_Bool (eqb b 114)) [
      | inl e ↦ one_more 98 114 b u (eqb-true b 114 e) (after_both (98 ∷ 114 ∷ []) u refl (rw e at h))
      | inr e ↦ ([], b, u, refl, refl, mark_begins PrefixB b (word_move b) u refl (quiet_word b) (rw e at h))
    ]

quiet_marks : (b : ℕ) → goes_to quiet (mark_start b) ≡ true
quiet_marks b = chosen quiet ((among b lone_marks, Some Ended) ∷ (among b operator_marks, Some Operator) ∷ (eqb b 42, Some Star) ∷ (eqb b 47, Some Slash) ∷ (eqb b 60, Some Less) ∷ (eqb b 62, Some Greater) ∷ (eqb b 33, Some Bang) ∷ []) refl

quiet_numbers : (b : ℕ) → goes_to quiet (number_start b) ≡ true
quiet_numbers b = chosen quiet ((eqb b 48, Some Zero) ∷ (is_digit b, Some Whole) ∷ (eqb b 46, Some Point) ∷ []) refl

not_quiet : (o p : Option State) (u : List ℕ) → goes_to quiet o ≡ true → is_in_string (or_stay Start (option_or o p) (λ r. last_state r u)) ≡ true → is_in_string (or_stay Start p (λ r. last_state r u)) ≡ true
not_quiet None p u h k = k
not_quiet (Some r) p u h k = absurd (both_ways (is_in_string (last_state r u)) (out Start (Some r) u refl h) k)

either_quiet : (o p : Option State) → goes_to quiet o ≡ true → goes_to quiet p ≡ true → goes_to quiet (option_or o p) ≡ true
either_quiet None p h k = k
either_quiet (Some r) p h k = h

after_letter : (a b : ℕ) (u : List ℕ) → b ≡ a → Marked (a ∷ []) u → Marked [] (b ∷ u)
after_letter a b u e w = (a ∷ w.0, w.1, w.2, rw (e, w.3) refl, w.4, w.5)

abbrev letter_start : ℕ → Option State
letter_start b = if eqb b 239 then Some High else (if is_letter b then Some Word else None)

after_start : (b : ℕ) (u : List ℕ) → is_in_string (or_stay Start (text_start b) (λ r. last_state r u)) ≡ true → Marked [] (b ∷ u)
after_start b u h =
    elim (cases_Bool (eqb b 114)) [
      | inl e ↦ after_letter 114 b u (eqb-true b 114 e) (after_r u (rw e at h))
      | inr e ↦ elim (cases_Bool (eqb b 98)) [
        | inl f ↦ after_letter 98 b u (eqb-true b 98 f) (after_b u (rw (e, f) at h))
        | inr f ↦ ([], b, u, refl, refl, mark_begins Start b (letter_start b) u refl (chosen quiet ((eqb b 239, Some High) ∷ (is_letter b, Some Word) ∷ []) refl) (rw (e, f) at h))
      ]
    ]

marked : (s : List ℕ) → is_in_string (last_state Start s) ≡ true → Marked [] s
marked [] h = absurd (both_ways false refl h)
marked (b ∷ u) h = after_start b u (not_quiet (option_or (mark_start b) (number_start b)) (text_start b) u (either_quiet (mark_start b) (number_start b) (quiet_marks b) (quiet_numbers b)) h)

-- ---- no string is the token there

after_closed : (u : List ℕ) → is_in_string (last_state Closed u) ≡ false
after_closed [] = refl
after_closed (b ∷ u) = refl

after_empty : (m : Quote) (u : List ℕ) → ((back : List ℕ) → u ≡ quote_byte m ∷ back → ⊥) → is_in_string (last_state (Empty m) u) ≡ false
after_empty m [] h = refl
after_empty m (b ∷ u) h =
    elim (cases_Bool (eqb b (quote_byte m))) [
      | inl e ↦ absurd (h u (ap (λ (x : ℕ). x ∷ u) (eqb-true b (quote_byte m) e)))
      | inr e ↦ rw e refl
    ]

closed : (t r : List ℕ) → IsToken v.String t r → is_in_string (last_state Start (t ++ r)) ≡ false
closed t r h =
    elim (string_state t h.lexeme) [
      | inl e ↦ rw (last_append Start Closed t r e) (after_closed r)
      | inr y ↦
          let e : after move Start t ≡ Some (Empty (y.1)) = rw y.3 (empty_state (y.1) (y.0) y.2) in
          rw (last_append Start (Empty (y.1)) t r e) (after_empty (y.1) r (λ back is. h.no_third (y.0) (quote_byte (y.1)) back y.2 (quote_is (y.1)) y.3 is))
    ]

pub opens : (s : List ℕ) → is_in_string (last_state Start s) ≡ true → OpensString s
opens s h = record {
  marked = marked s h;
  unclosed = λ t r is k. both_ways (is_in_string (last_state Start s)) (subst (λ (x : List ℕ). is_in_string (last_state Start x) ≡ false) is (closed t r k)) h;
}

-- ---- and back

no_third_on : (q : State) (u : List ℕ) → before_third q u ≡ true → Stops q u → ⊥
no_third_on q u h stops =
    let w = third_parts q u h in
    let here : Stops (Empty (w.0)) (quote_byte (w.0) ∷ w.1) = subst (Stops (Empty (w.0))) w.3 (subst (λ (x : State). Stops x u) w.2 stops) in
    none-some (Long (w.0)) (sym (rw (itself (w.0)) at here))

string_at : (t u : List ℕ) (q : State) → after move Start t ≡ Some q → ends q ≡ Some v.String → Stops q u → IsToken v.String t u
string_at t u q e k stops = record {
  lexeme = let l : IsString t = sound v.String t (rw e k) in l;
  longest = λ d x y is l. longest_at t u q e stops d x y is l;
  no_third = λ p m back y n a is. no_third_on q u (third_at q u p m t back e y n a is) stops;
}

-- the state after a prefix and a mark
after_mark : (s p : List ℕ) (m : ℕ) (back : List ℕ) → s ≡ p ++ (m ∷ back) → is_prefix p ≡ true → (w : (q : Quote) × (m ≡ quote_byte q)) → last_state Start s ≡ last_state (Opened (w.0)) back
after_mark s p m back is y w =
    let front : s ≡ (p ++ (quote_byte (w.0) ∷ [])) ++ back = is ∙ ap (λ (x : ℕ). p ++ (x ∷ back)) w.1 ∙ sym (append_assoc p (quote_byte (w.0) ∷ []) back) in
    rw front (last_append Start (Opened (w.0)) (p ++ (quote_byte (w.0) ∷ [])) back (prefix_opens (w.0) p y))

pub opened : (s : List ℕ) → OpensString s → is_in_string (last_state Start s) ≡ true
opened s o =
    let (p, m, back, is, y, n) = o.marked in
    let w = quote_of m n in
    let within : inside (last_state Start s) ≡ true = rw (after_mark s p m back is y w) (stays inside inside_more (Opened (w.0)) back refl) in
    elim (cases_Bool (is_in_string (last_state Start s))) [
      | inl h ↦ h
      | inr h ↦ let x = taken Start s in absurd (o.unclosed (x.0) (x.1) (sym x.2) (string_at (x.0) (x.1) (last_state Start s) x.3 (closed_ends (last_state Start s) within h) x.4))
    ]

-- ---- byte by byte

pub answered : (s : List ℕ) (b : Bool) → b ≡ is_in_string (last_state Start s) → (IsTrue b → OpensString s) × (OpensString s → IsTrue b)
answered s b e = (λ h. opens s (sym e ∙ h), λ o. e ∙ opened s o)

pub stuck : (s : List ℕ) (q : State) (i : ℕ) → i < length s → move q (get_or s i 0) ≡ None → last_state q (drop i s) ≡ q
stuck s q i lt e = rw (drop-cons s i 0 lt, e) refl

pub moved : (s : List ℕ) (q r : State) (i : ℕ) → i < length s → move q (get_or s i 0) ≡ Some r → last_state q (drop i s) ≡ last_state r (drop (i + 1) s)
moved s q r i lt e =
    let one : last_state q (drop i s) ≡ last_state r (drop (suc i) s) = rw (drop-cons s i 0 lt, e) refl in
    one ∙ ap (λ (j : ℕ). last_state r (drop j s)) (sym (add-one i))

pub at_end : (s : List ℕ) (q : State) (i : ℕ) → length s ≤ i → last_state q (drop i s) ≡ q
at_end s q i le = ap (last_state q) (drop_of_length-le s le)

-- ---- what begins an open string is its prefix

abbrev is_start : List ℕ → Bool
is_start [] = true
is_start (b ∷ p) = is_class_1 (reads Start (b ∷ p))

no_shorter : (c : Class) (t r p : List ℕ) (m : ℕ) (back : List ℕ) → IsToken c t r → t ++ r ≡ p ++ (m ∷ back) → is_start p ≡ true → length p ≤ length t
no_shorter c t r [] m back h is e = omega arith
no_shorter c t r (b ∷ p) m back h is e = h.longest (keyword_or_name v.Name (b ∷ p)) (b ∷ p) (m ∷ back) (sym is) (sound v.Name (b ∷ p) (at_1 (reads Start (b ∷ p)) e))

-- no token has a mark after a prefix: it would be a string
no_mark_in : (c : Class) (t r p : List ℕ) (m : ℕ) (u : List ℕ) → IsToken c t r → OpensString (t ++ r) → is_prefix p ≡ true → is_quote m ≡ true → t ≡ p ++ (m ∷ u) → ⊥
no_mark_in c t r p m u h o y n is =
    let q = quote_of m n in
    let st = state_of c t h.lexeme in
    let at : t ≡ p ++ (quote_byte (q.0) ∷ u) = is ∙ ap (λ (x : ℕ). p ++ (x ∷ u)) q.1 in
    let there : after move (Opened (q.0)) u ≡ Some (st.0) = sym (prefixed (q.0) p u y) ∙ ap (after move Start) (sym at) ∙ st.2 in
    let within : inside (st.0) ≡ true = let g = goes_on inside inside_more (Opened (q.0)) u refl in rw there at g in
    let class : c ≡ v.String = sym st.4 ∙ ap (λ (k : Class). keyword_or_name k t) (inside_ends (st.0) (st.1) within st.3) in
    o.unclosed t r refl (subst (λ (k : Class). IsToken k t r) class h)

no_token_at : (m : ℕ) (back : List ℕ) → is_quote m ≡ true → OpensString (m ∷ back) → NoToken (m ∷ back)
no_token_at m back n o d u w e k =
    let (b, x, is, solid) = begins d u w k in
    let same : b ≡ m = let f : (b ∷ x) ++ w ≡ m ∷ back = subst (λ (z : List ℕ). z ++ w ≡ m ∷ back) is e in cc in
    no_mark_in d u w [] m x k (subst OpensString (sym e) o) refl n (is ∙ ap (λ (z : ℕ). z ∷ x) same)

-- the string opens after its prefix too
opens_at_mark : (s p : List ℕ) (m : ℕ) (back : List ℕ) → OpensString s → s ≡ p ++ (m ∷ back) → is_prefix p ≡ true → is_quote m ≡ true → OpensString (m ∷ back)
opens_at_mark s p m back o is y n =
    let q = quote_of m n in
    opens (m ∷ back) (ap is_in_string (after_mark (m ∷ back) [] m back refl refl q ∙ sym (after_mark s p m back is y q)) ∙ opened s o)

pub opens_after_prefix : OpensAfterPrefix
opens_after_prefix c t r h o =
    let (p, m, back, is, y, n) = o.marked in
    elim (longer t r p (m ∷ back) is) [
      | inl le ↦
          let same : t ≡ p = same_front t r p (m ∷ back) is (let k = no_shorter c t r p m back h is (one_text is_start prefixes refl p y) in omega arith) in
          let rest : r ≡ m ∷ back = rest_same t r p (m ∷ back) is same in
          (m, back, rw same y, rest, n, subst NoToken (sym rest) (no_token_at m back n (opens_at_mark (t ++ r) p m back o is y n)))
      | inr w ↦
          let (b, u, longer_is, rest_is) = w in
          let mark : b ≡ m = let x : m ≡ b = cc in sym x in
          absurd (no_mark_in c t r p m u h o y n (longer_is ∙ ap (λ (x : ℕ). p ++ (x ∷ u)) mark))
    ]
