-- What is shown of a text whose first control character is at a place.
use Rattle.bz_streams.proofs.Imported.{[], ◌++◌, ◌+◌, ◌-◌, ◌<◌, ◌∙◌, ◌∷◌, ◌≡◌, ap, append-nil, append_assoc, arith, Bytes, cond-false, cond-true, drop, false, get_or, is_ascii_control, is_control_pair, length, length-drop, sym, take, take-length, true, with_controls, ℕ}
use Rattle.bz_streams.proofs.Written.{left-cons}

-- a control character of ASCII comes first
one_shown : (shown : ℕ → Bytes) (byte : ℕ) (rest : Bytes) → is_ascii_control byte ≡ true → with_controls shown (byte ∷ rest) ≡ shown byte ++ with_controls shown rest
one_shown shown byte [] is = cond-true (is_ascii_control byte) _ _ is ∙ sym (append-nil (shown byte))
one_shown shown byte (next ∷ rest) is = cond-true (is_ascii_control byte) _ _ is

-- one of two bytes comes first
pair_shown : (shown : ℕ → Bytes) (byte next : ℕ) (rest : Bytes) → is_ascii_control byte ≡ false → is_control_pair byte next ≡ true
    → with_controls shown (byte ∷ next ∷ rest) ≡ shown next ++ with_controls shown rest
pair_shown shown byte next rest plain is = cond-false (is_ascii_control byte) _ _ plain ∙ cond-true (is_control_pair byte next) _ _ is

-- none comes first
pub none_shown : (shown : ℕ → Bytes) (byte next : ℕ) (rest : Bytes) → is_ascii_control byte ≡ false → is_control_pair byte next ≡ false
    → with_controls shown (byte ∷ next ∷ rest) ≡ byte ∷ with_controls shown (next ∷ rest)
none_shown shown byte next rest plain single = cond-false (is_ascii_control byte) _ _ plain ∙ cond-false (is_control_pair byte next) _ _ single

-- ---- the cut at a place before which none begins

whole_rest : (text : Bytes) (at : ℕ) → take (length text - at) (drop at text) ≡ drop at text
whole_rest text at = rw (← length-drop at text) (take-length (drop at text))

pub one_cut : (shown : ℕ → Bytes) (text : Bytes) (at : ℕ) → with_controls shown text ≡ take at text ++ with_controls shown (drop at text) → at < length text
    → is_ascii_control (get_or text at 0) ≡ true
    → with_controls shown text
    ≡ take at text ++ (shown (get_or text at 0) ++ with_controls shown (take (length text - (at + 1)) (drop (at + 1) text)))
one_cut shown text at so_far within is =
    so_far ∙ ap (λ (left : Bytes). take at text ++ left) (ap (with_controls shown) (left-cons text at 0 within)
    ∙ one_shown shown (get_or text at 0) (drop (at + 1) text) is
    ∙ ap (λ (rest : Bytes). shown (get_or text at 0) ++ with_controls shown rest) (sym (whole_rest text (at + 1))))

two_left : (text : Bytes) (at : ℕ) → at + 1 < length text → drop at text ≡ get_or text at 0 ∷ get_or text (at + 1) 0 ∷ drop (at + 2) text
two_left text at within =
    let after : at + 1 + 1 ≡ at + 2 = omega arith in
    left-cons text at 0 (omega (arith, within))
    ∙ ap (λ (rest : Bytes). get_or text at 0 ∷ rest) (left-cons text (at + 1) 0 within ∙ ap (λ (n : ℕ). get_or text (at + 1) 0 ∷ drop n text) after)

pub pair_cut : (shown : ℕ → Bytes) (text : Bytes) (at : ℕ) → with_controls shown text ≡ take at text ++ with_controls shown (drop at text) → at + 1 < length text
    → is_ascii_control (get_or text at 0) ≡ false → is_control_pair (get_or text at 0) (get_or text (at + 1) 0) ≡ true
    → with_controls shown text
    ≡ take at text ++ (shown (get_or text (at + 1) 0) ++ with_controls shown (take (length text - (at + 2)) (drop (at + 2) text)))
pair_cut shown text at so_far within plain is =
    so_far ∙ ap (λ (left : Bytes). take at text ++ left) (ap (with_controls shown) (two_left text at within)
    ∙ pair_shown shown (get_or text at 0) (get_or text (at + 1) 0) (drop (at + 2) text) plain is
    ∙ ap (λ (rest : Bytes). shown (get_or text (at + 1) 0) ++ with_controls shown rest) (sym (whole_rest text (at + 2))))

-- ---- what is shown so far

-- a plain text and then a control character are shown, in front of what is shown of the rest
pub shown_next : (plain escape shown left rest : Bytes) → left ≡ plain ++ (shown ++ rest) → escape ≡ shown → left ≡ (plain ++ escape) ++ rest
shown_next plain escape shown left rest cut is =
    cut ∙ sym (append_assoc plain shown rest) ∙ ap (λ (it : Bytes). (plain ++ it) ++ rest) (sym is)

pub put_next : (made plain shown left rest all : Bytes) → made ++ left ≡ all → left ≡ plain ++ (shown ++ rest) → ((made ++ plain) ++ shown) ++ rest ≡ all
put_next made plain shown left rest all so_far cut =
    append_assoc (made ++ plain) shown rest ∙ append_assoc made plain (shown ++ rest) ∙ ap (λ (it : Bytes). made ++ it) (sym cut) ∙ so_far
