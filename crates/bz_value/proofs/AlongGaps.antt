-- A gap in which no unescaped newline may be says no newline, and at most one comment.
use Rattle.bz_value.proofs.Words.{[], ◌∷◌, ◌≡◌, ap, arith, as_list, backslash, blank, Bool, both_ways, Bytes, comment, comments_in, eqb, escaped, escaped_return, false, GapLine, if◌then◌else◌, is_blank, is_indent, IsGap, IsOneLine, last_comment, line_feed, lines_from, lines_of, List, nat_tests, ne_eqb, None, nothing, number_sign, Option, refl, rest_of_line, Some, some_newline, suc, trimmed, true, unescaped, ℕ}

-- a blank says nothing
blank_silent : (indent c : ℕ) (g : Bytes) → is_blank c ≡ true → lines_from indent (c ∷ g) ≡ lines_from (if is_indent c then suc indent else 0) g
blank_silent indent c g h =
    let m : eqb c number_sign ≡ false = grind (arith, nat_tests) in
    let n : eqb c line_feed ≡ false = grind (arith, nat_tests) in
    let b : eqb c backslash ≡ false = grind (arith, nat_tests) in
    rw (m, n, b) refl

-- a comment without its newline
one_line_rest : (words : Bytes) → IsOneLine words → rest_of_line words ≡ record { words = words; newline = false; lines = [] }
one_line_rest [] h = refl
one_line_rest (c ∷ words) h = rw (ne_eqb c line_feed h.0) (ap (λ r. record { words = c ∷ r.words; newline = r.newline; lines = r.lines }) (one_line_rest words h.1))

-- no newline is in these lines, and at most one comment, none where the gap may not end in one
abbrev pub AreAlong : Bool → List GapLine → Type 0
AreAlong unclosed lines = (some_newline lines ≡ false) × (only : Option Bytes) × (comments_in lines ≡ as_list only) × (unclosed ≡ false → only ≡ None)

along_from : (unclosed : Bool) (indent : ℕ) (gap : Bytes) → IsGap false unclosed gap → AreAlong unclosed (lines_from indent gap)
along_from unclosed indent gap (nothing e) = rw e (refl, None, refl, λ closed. refl)
along_from unclosed indent gap (blank byte rest e b h) = rw e (rw (blank_silent indent byte rest b) (along_from unclosed (if is_indent byte then suc indent else 0) rest h))
along_from unclosed indent gap (escaped rest e h) = rw e (along_from unclosed 0 rest h)
along_from unclosed indent gap (escaped_return rest e h) = rw e (along_from unclosed 0 rest h)
along_from unclosed indent gap (unescaped rest e n h) = absurd (both_ways false refl n)
along_from unclosed indent gap (comment words rest e o n h) = absurd (both_ways false refl n)
along_from unclosed indent gap (last_comment words e o n) =
    rw e (rw (one_line_rest words o) (refl, Some (trimmed (number_sign ∷ words)), refl, λ closed. absurd (both_ways unclosed closed n)))

pub along : (unclosed : Bool) (gap : Bytes) → IsGap false unclosed gap → AreAlong unclosed (lines_of gap)
along unclosed gap h = along_from unclosed 0 gap h
