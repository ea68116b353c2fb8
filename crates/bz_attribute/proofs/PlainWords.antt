-- The string of a plain word, and its body.
use Rattle.bz_attribute.proofs.Words.{[], ◌++◌, ◌+◌, ◌-◌, ◌||◌, ◌∙◌, ◌∷◌, ◌≡◌, ap, arith, backslash, body, Bool, Bytes, bytes_eq, bytes_eq-Decides, false, inner, length, length-append, list_any, nat_eq, or_parts, quotation_mark, quoted_of, quoted_plain, refl, Some, take_at, true, ℕ}
use Rattle.bz_command_syntax.specs.Quoted.{is_escaped}
use Rattle.bz_attribute.proofs.FormsAgain.{both}

-- no quotation mark, no backslash and no newline
abbrev pub IsPlain : Bytes → Type 0
IsPlain text = list_any is_escaped text ≡ false

-- ---- a string of a plain word

pub equal_self : (text : Bytes) → bytes_eq text text ≡ true
equal_self text = (bytes_eq-Decides text text).1 refl

abbrev between : Bytes → Bytes
between text = quotation_mark ∷ text ++ quotation_mark ∷ []

inner_between : (text : Bytes) → inner (between text) ≡ text
inner_between text =
    let long : length (text ++ quotation_mark ∷ []) ≡ length text + 1 = length-append text (quotation_mark ∷ []) in
    take_at text (quotation_mark ∷ []) (length (between text) - 2) (omega arith)

abbrev ends_string : ℕ → Bool
ends_string byte = nat_eq byte quotation_mark || nat_eq byte backslash

no_end : (text : Bytes) → IsPlain text → list_any ends_string text ≡ false
no_end [] h = refl
no_end (byte ∷ text) h =
    let p = or_parts (is_escaped byte) (list_any is_escaped text) h in
    let q : (nat_eq byte 10 ≡ false) × (ends_string byte ≡ false) = or_parts (nat_eq byte 10) (ends_string byte) p.0 in
    both (λ x y. x || y) q.1 (no_end text p.1)

body_between : (text : Bytes) → IsPlain text → body (between text) ≡ Some text
body_between text h = rw (inner_between text, equal_self (between text), no_end text h) refl

pub body_quoted : (text : Bytes) → IsPlain text → body (quoted_of text) ≡ Some text
body_quoted text h = ap body (quoted_plain text h) ∙ body_between text h
