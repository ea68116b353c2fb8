-- The line of a file that has no name yet.
use Rattle.bz_buildozer.proofs.Words.{[], ◌&&◌, ◌++◌, ◌==◌, ◌∙◌, ◌∷◌, ◌≡◌, ap, append_assoc, AppendsUnlessFailed, Bool, Bytes, bytes_eq, codes, escaped_text, false, if◌then◌else◌, input_package, named_line, Option, refl, Reports, second_name, slash_after, stdin, subst, sym, true, wanting_name, ℕ}
use Rattle.std.specs.Char.{is_ascii_control}
use Rattle.bz_streams.specs.Controls.{escape, is_control_pair}

-- ---- a slash after a text is no part of a control character

last_shown : (single first : Bool) (byte : ℕ) (left other : Bytes)
    → (if single then escape byte ++ left else (if first && false then escape 47 ++ other else byte ∷ left)) ≡ (if single then escape byte else byte ∷ []) ++ left
last_shown true first byte left other = refl
last_shown false true byte left other = refl
last_shown false false byte left other = refl

two_shown : (single pair : Bool) (byte next : ℕ) (one two more : Bytes)
    → (if single then escape byte ++ (one ++ more) else (if pair then escape next ++ (two ++ more) else byte ∷ (one ++ more)))
    ≡ (if single then escape byte ++ one else (if pair then escape next ++ two else byte ∷ one)) ++ more
two_shown true pair byte next one two more = sym (append_assoc (escape byte) one more)
two_shown false true byte next one two more = sym (append_assoc (escape next) two more)
two_shown false false byte next one two more = refl

escaped_before : (text rest : Bytes) → escaped_text (text ++ 47 ∷ rest) ≡ escaped_text text ++ escaped_text (47 ∷ rest)
escaped_before [] rest = refl
escaped_before (byte ∷ []) rest = last_shown (is_ascii_control byte) (byte == 194) byte (escaped_text (47 ∷ rest)) (escaped_text rest)
escaped_before (byte ∷ next ∷ text) rest =
    ap (λ (one : Bytes). if is_ascii_control byte then escape byte ++ one
    else (if is_control_pair byte next then escape next ++ escaped_text (text ++ 47 ∷ rest) else byte ∷ one)) (escaped_before (next ∷ text) rest)
    ∙ ap (λ (two : Bytes). if is_ascii_control byte then escape byte ++ (escaped_text (next ∷ text) ++ escaped_text (47 ∷ rest))
    else (if is_control_pair byte next then escape next ++ two else byte ∷ (escaped_text (next ∷ text) ++ escaped_text (47 ∷ rest)))) (escaped_before text rest)
    ∙ two_shown (is_ascii_control byte) (is_control_pair byte next) byte next (escaped_text (next ∷ text)) (escaped_text text) (escaped_text (47 ∷ rest))

-- ---- memory is refused

named_after : (current : Bytes) → escaped_text current ++ (slash_after current ++ codes "BUILD: Memory\n") ≡ named_line (second_name current) (codes "Memory")
named_after [] = refl
named_after (first ∷ rest) =
    let text : Bytes = first ∷ rest in
    let path : escaped_text (text ++ codes "/" ++ codes "BUILD") ≡ escaped_text text ++ codes "/BUILD" =
    ap escaped_text (append_assoc text (codes "/") (codes "BUILD")) ∙ escaped_before text (codes "BUILD") in
    sym (ap (λ (name : Bytes). name ++ codes ": " ++ codes "Memory" ++ codes "\n") path
    ∙ ap (λ (front : Bytes). front ++ codes "Memory" ++ codes "\n") (append_assoc (escaped_text text) (codes "/BUILD") (codes ": "))
    ∙ ap (λ (front : Bytes). front ++ codes "\n") (append_assoc (escaped_text text) (codes "/BUILD: ") (codes "Memory"))
    ∙ append_assoc (escaped_text text) (codes "/BUILD: Memory") (codes "\n"))

module _ (faults faults' : ℕ) (old new : Option Bytes) (current : Bytes) where
  -- for standard input, or for the file of a package
  pub wants_input : bytes_eq current input_package ≡ true → AppendsUnlessFailed faults faults' old new (named_line stdin (codes "Memory"))
      → Reports faults faults' old new (wanting_name current)
  wants_input is told = (
    faults',
    new,
    subst (λ (of_input : Bool). AppendsUnlessFailed faults faults' old new (named_line (if of_input then stdin else second_name current) (codes "Memory"))) (sym is) told,
    (refl, refl),
  )

  pub wants_package : (slash : Bytes) → bytes_eq current input_package ≡ false → slash ≡ slash_after current
      → AppendsUnlessFailed faults faults' old new (escaped_text current ++ (slash ++ codes "BUILD: Memory\n")) → Reports faults faults' old new (wanting_name current)
  wants_package slash other is told = (
    faults',
    new,
    subst (λ (of_input : Bool). AppendsUnlessFailed faults faults' old new (named_line (if of_input then stdin else second_name current) (codes "Memory"))) (sym other)
        (subst (AppendsUnlessFailed faults faults' old new) (ap (λ (it : Bytes). escaped_text current ++ (it ++ codes "BUILD: Memory\n")) is ∙ named_after current) told),
    (refl, refl),
  )
