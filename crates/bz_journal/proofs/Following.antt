-- What an action leaves of a history, by what it answers.
use Rattle.bz_journal.proofs.Words.{[], ◌++◌, ◌+◌, ◌-◌, ◌<◌, ◌==◌, ◌∙◌, ◌∷◌, ◌≡◌, ◌≢◌, Action, Acts, after_meaning, Answer, ap, arith, Bool, Bytes, bytes_eq, Changed, changed, Do, Err, false, FollowsKept, Format, Full, get_or-take, get_or_append_left, gives, History, if◌then◌else◌, inl, inr, length, length-take-le, Makes, Meaning, Memory, most_steps, Moved, nat_lt, None, NoteTooLong, Ok, Option, present, Redo, refl, Refusal, refuses, Some, subst, sym, take, TooFar, true, unchanged, Undo, ℕ}
use Rattle.bz_journal.proofs.Formatting.{present_changed}

-- What an action leaves: after the answer Changed a new text is after the present one, and is present; else the texts stay. Where the
-- present text has another number then, the history follows the one before.
pub record Goes (answer : Answer) (h after : History) : Type 0 where
  pub new : answer ≡ Ok Changed → (after.cursor ≡ h.cursor + 1) × (after.texts ≡ take (h.cursor + 1) h.texts ++ present after ∷ [])
  pub old : (answer ≡ Ok Changed → ⊥) → after.texts ≡ h.texts
  pub follows : after.cursor ≢ h.cursor → FollowsKept h after

-- what holds of both ends of a test
pub by_test : (P : Answer × History → Type 0) (test : Bool) (a b : Answer × History) → P a → P b → P (if test then a else b)
by_test P true a b first second = first
by_test P false a b first second = second

not_changed : (printed : Option Bytes) → ◌≡◌ {A = Answer} (Ok (unchanged printed)) (Ok Changed) → ⊥
not_changed None e = absurd (cc)
not_changed (Some text) e = absurd (cc)

not_moved : ◌≡◌ {A = Answer} (Ok Moved) (Ok Changed) → ⊥
not_moved e = absurd (cc)

not_refused : (refusal : Refusal) → ◌≡◌ {A = Answer} (Err refusal) (Ok Changed) → ⊥
not_refused refusal e = absurd (cc)

module _ (h : History) where
  abbrev Ends : Answer × History → Type 0
  Ends end = Goes end.0 h end.1

  stays : (answer : Answer) → (answer ≡ Ok Changed → ⊥) → Goes answer h h
  stays answer other = record { new = λ is. absurd (other is); old = λ _. refl; follows = λ elsewhere. absurd (elsewhere refl) }

  refused : (refusal : Refusal) → Goes (Err refusal) h h
  refused refusal = stays (Err refusal) (not_refused refusal)

  moves : (same : Bool) (cursor : ℕ) → Goes (Ok Moved) h (if same then h else record h { cursor = cursor; before = h.cursor })
  moves true cursor = stays (Ok Moved) not_moved
  moves false cursor = record { new = λ is. absurd (not_moved is); old = λ _. refl; follows = λ _. (refl, refl) }

  module _ (within : h.cursor < length h.texts) (note : Bytes) where
    comes : (text : Bytes) → Goes (Ok Changed) h (changed note h text)
    comes text =
        let until : length (take (h.cursor + 1) h.texts) ≡ h.cursor + 1 = length-take-le (h.cursor + 1) h.texts (omega (arith, within)) in
        record {
          new = λ _. (refl, ap (λ (t : Bytes). take (h.cursor + 1) h.texts ++ t ∷ []) (sym (present_changed note h text within)));
          old = λ other. absurd (other refl);
          follows = λ _. (
            refl,
            get_or_append_left (take (h.cursor + 1) h.texts) (text ∷ []) [] h.cursor (omega (arith, until))
                ∙ get_or-take (h.cursor + 1) h.texts h.cursor [] (omega arith),
          );
        }

    by_meaning : (m : Meaning) → Ends (after_meaning note h m)
    by_meaning (gives text printed) =
        by_test Ends (bytes_eq text (present h)) _ _ (stays (Ok (unchanged printed)) (not_changed printed))
        (by_test Ends (nat_lt h.cursor most_steps) _ _ (comes text) (refused Full))
    by_meaning (refuses refusal) = refused refusal

    made_goes : (action : Action) (answer : Answer) (after : History) → Makes action note h answer after → Goes answer h after
    made_goes (Do command target) answer after (m, means, e) = subst Ends (sym e) (by_meaning m)
    made_goes Format answer after (m, formats, e) = subst Ends (sym e) (by_meaning m)
    made_goes (Undo n) answer after e = subst Ends (sym e) (by_test Ends (nat_lt h.cursor n) _ _ (refused TooFar) (moves (h.cursor - n == h.cursor) (h.cursor - n)))
    made_goes (Redo n) answer after e =
        subst Ends (sym e) (by_test Ends (nat_lt (h.cursor + n) (length h.texts)) _ _ (moves (h.cursor + n == h.cursor) (h.cursor + n)) (refused TooFar))

pub goes : (action : Action) (note : Bytes) (h after : History) (answer : Answer) → h.cursor < length h.texts → Acts action note h answer after → Goes answer h after
goes action note h after answer within (inl (long, e)) = subst (Ends h) (sym e) (refused h NoteTooLong)
goes action note h after answer within (inr (short, inl makes)) = made_goes h within note action answer after makes
goes action note h after answer within (inr (short, inr (takes, memory, same))) = rw (memory, same) (refused h Memory)

-- the numbers are other ones, as the code compares them
pub has_moved : (a b x y : ℕ) → a ≢ b → a ≡ x → b ≡ y → x ≢ y
has_moved a b x y apart to from same = apart (to ∙ same ∙ sym from)
