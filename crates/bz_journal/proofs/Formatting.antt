-- The present text after formatting.
use Rattle.bz_journal.proofs.Words.{[], ◌++◌, ◌+◌, ◌<◌, ◌∙◌, ◌∷◌, ◌≡◌, after_meaning, after_text, Answer, ap, arith, Bool, Bytes, bytes_eq, bytes_eq-Decides, Changed, changed, Err, false, Format, Formats, Full, get_or, get_or-append_seam, given, gives, History, if◌then◌else◌, inl, inr, IsFormatted, IsGiven, length, length-take, MakesOrWants, Meaning, most_steps, nat_lt, None, Ok, OnOk, Option, present, refl, refuses, Reply, subst, sym, take, true, unchanged, view_of, ℕ}
use Rattle.bz_build_format.specs.Fixed.{FixedPoint}

-- formatting prints nothing
prints_none : (text formatted : Bytes) (printed : Option Bytes) → Formats text (gives formatted printed) → printed ≡ None
prints_none text formatted printed formats = IsGiven.same (given (view_of formats.0) formatted None printed (sym formats.2))

pub present_changed : (note : Bytes) (h : History) (text : Bytes) → h.cursor < length h.texts → present (changed note h text) ≡ text
present_changed note h text within =
    let long : length (take (h.cursor + 1) h.texts) ≡ h.cursor + 1 = rw length-take (omega arith) in
    subst (λ (n : ℕ). get_or (take (h.cursor + 1) h.texts ++ text ∷ []) n [] ≡ text) long (get_or-append_seam (take (h.cursor + 1) h.texts) text [] [])

-- the text that is present where an answer is no refusal
pub text_after : (note : Bytes) (h after : History) (text : Bytes) (printed : Option Bytes) (reply : Reply) → h.cursor < length h.texts
    → ◌≡◌ {A = Answer × History} (Ok reply, after) (after_text note h text printed) → present after ≡ text
text_after note h after text printed reply within led = by_tests (bytes_eq text (present h)) (nat_lt h.cursor most_steps) (bytes_eq-Decides text (present h)).0 led
  where
    by_tests : (same below : Bool) → (same ≡ true → text ≡ present h)
        → ◌≡◌ {A = Answer × History} (Ok reply, after) (if same then (Ok (unchanged printed), h) else (if below then (Ok Changed, changed note h text) else (Err Full, h)))
        → present after ≡ text
    by_tests true below is led = ap (λ (z : Answer × History). present z.1) led ∙ sym (is refl)
    by_tests false true is led = ap (λ (z : Answer × History). present z.1) led ∙ present_changed note h text within
    by_tests false false is led = let answer = ap (λ (z : Answer × History). z.0) led in absurd (cc)

by_meaning : FixedPoint → (note : Bytes) (h after : History) (reply : Reply) (m : Meaning) → h.cursor < length h.texts → Formats (present h) m
    → ◌≡◌ {A = Answer × History} (Ok reply, after) (after_meaning note h m) → IsFormatted (present h) (present after)
by_meaning fixed note h after reply (gives text printed) within formats led =
    let first : Formats (present h) (gives text None) = subst (λ (p : Option Bytes). Formats (present h) (gives text p)) (prints_none (present h) text printed formats) formats in
    subst (IsFormatted (present h)) (sym (text_after note h after text printed reply within led)) (fixed (present h) text first)
by_meaning fixed note h after reply (refuses refusal) within formats led = let answer = ap (λ (z : Answer × History). z.0) led in absurd (cc)

pub formatted_after : FixedPoint → (note : Bytes) (h after : History) (answer : Answer) → h.cursor < length h.texts → MakesOrWants Format note h answer after
    → OnOk answer (IsFormatted (present h) (present after))
formatted_after fixed note h after (Err refusal) within acts = tt
formatted_after fixed note h after (Ok reply) within (inl (m, formats, led)) = by_meaning fixed note h after reply m within formats led
formatted_after fixed note h after (Ok reply) within (inr memory) = let answer = memory.1 in absurd (cc)
