-- A history of whole texts, and what actions make of it.
use Rattle.std.specs.Prelude.{◌≡◌, ◌⊎◌, ◌+◌, ◌-◌, ◌<◌, ◌≤◌, ◌==◌, ℕ, List, [], ◌∷◌, ◌++◌, length, take, slice_index_or, nat_lt, bytes_eq, if◌then◌else◌, Option, Some, None, Result, Ok, Err}
use Rattle.std.specs.List.{All}
use Rattle.bz_journal.specs.Words.{Accepted, Bytes, Full, Memory, NoteTooLong, Refusal, TooFar}
use Rattle.bz_journal.specs.Actions.{Action}
use Rattle.bz_journal.specs.Actions.{Do, Format, Undo, Redo}
use Rattle.bz_journal.specs.declared.action.Reply.{Reply}
use Rattle.bz_journal.specs.declared.action.Reply.TheVariants.{Changed, Same, Printed, Moved}
use Rattle.bz_journal.specs.Meaning.{Meaning, gives, refuses, Means, Formats}
pub use Rattle.bz_resume.specs.Journals.{History}

abbrev pub present : History → Bytes
present h = slice_index_or h.texts h.cursor []

-- the history of one text of a package's file
abbrev pub opened : Bytes → Bytes → History
opened current text = record { «package» = current; texts = text ∷ []; notes = []; cursor = 0; before = 0 }

abbrev pub most_steps : ℕ
most_steps = 100000

-- the most bytes of a note
abbrev pub note_limit : ℕ
note_limit = 65536

-- Every text is accepted, each step between two of them has a note, one is the present one and one the one before it, and there
-- are no more steps than may be.
pub record IsKept (h : History) : Type 0 where
  pub accepted : All Accepted h.texts
  pub noted : length h.notes + 1 ≡ length h.texts
  pub within : h.cursor < length h.texts
  pub known : h.before < length h.texts
  pub bounded : length h.texts ≤ most_steps + 1

-- ---- one action: what is answered, and the history after it

abbrev pub Answer : Type 0
Answer = Result Reply Refusal

-- The texts after the present one are cut with their notes, and the new one is appended and is the present one.
abbrev pub changed : Bytes → History → Bytes → History
changed note h text = record {
  «package» = h.package;
  texts = take (h.cursor + 1) h.texts ++ text ∷ [];
  notes = take h.cursor h.notes ++ note ∷ [];
  cursor = h.cursor + 1;
  before = h.cursor;
}

-- what is answered where the text is as it was
abbrev pub unchanged : Option Bytes → Reply
unchanged None = Same
unchanged (Some printed) = Printed printed

-- A text equal to the present one changes nothing; a history of the most steps takes no other.
abbrev pub after_text : Bytes → History → Bytes → Option Bytes → Answer × History
after_text note h text printed =
    if bytes_eq text (present h) then (Ok (unchanged printed), h)
    else (if nat_lt h.cursor most_steps then (Ok Changed, changed note h text) else (Err Full, h))

abbrev pub after_meaning : Bytes → History → Meaning → Answer × History
after_meaning note h (gives text printed) = after_text note h text printed
after_meaning note h (refuses refusal) = (Err refusal, h)

-- the present text is another one, or the same
abbrev pub moved : History → ℕ → History
moved h cursor = if cursor == h.cursor then h else record h { cursor = cursor; before = h.cursor }

abbrev pub undone : ℕ → History → Answer × History
undone n h = if nat_lt h.cursor n then (Err TooFar, h) else (Ok Moved, moved h (h.cursor - n))

abbrev pub redone : ℕ → History → Answer × History
redone n h = if nat_lt (h.cursor + n) (length h.texts) then (Ok Moved, moved h (h.cursor + n)) else (Err TooFar, h)

-- what an action answers and leaves, with ample memory, whatever the length of its note
abbrev pub Makes : Action → Bytes → History → Answer → History → Type 0
Makes (Do command target) note h answer after = (m : Meaning) × Means command target h.package (present h) m × ((answer, after) ≡ after_meaning note h m)
Makes Format note h answer after = (m : Meaning) × Formats (present h) m × ((answer, after) ≡ after_meaning note h m)
Makes (Undo n) note h answer after = (answer, after) ≡ undone n h
Makes (Redo n) note h answer after = (answer, after) ≡ redone n h

-- going by no step takes no memory, and going by more steps than there are takes none
abbrev pub IsFree : Action → History → Type 0
IsFree (Do command target) h = ⊥
IsFree Format h = ⊥
IsFree (Undo n) h = (n ≡ 0) ⊎ (h.cursor < n)
IsFree (Redo n) h = (n ≡ 0) ⊎ (length h.texts ≤ h.cursor + n)

-- Memory may be refused to an action that takes some, and then nothing changes.
abbrev pub MakesOrWants : Action → Bytes → History → Answer → History → Type 0
MakesOrWants action note h answer after = Makes action note h answer after ⊎ ((IsFree action h → ⊥) × (answer ≡ Err Memory) × (after ≡ h))

-- what an action with a note answers and leaves, with ample memory: too long a note is refused before all else
abbrev pub Leads : Action → Bytes → History → Answer → History → Type 0
Leads action note h answer after =
    ((note_limit < length note) × (◌≡◌ {A = Answer × History} (answer, after) (Err NoteTooLong, h)))
    ⊎ ((length note ≤ note_limit) × Makes action note h answer after)

-- the same, or memory was refused to an action that takes some, and nothing has changed
abbrev pub Acts : Action → Bytes → History → Answer → History → Type 0
Acts action note h answer after =
    ((note_limit < length note) × (◌≡◌ {A = Answer × History} (answer, after) (Err NoteTooLong, h)))
    ⊎ ((length note ≤ note_limit) × MakesOrWants action note h answer after)

abbrev pub IsFormat : Action → Type 0
IsFormat (Do command target) = ⊥
IsFormat Format = Unit {0}
IsFormat (Undo n) = ⊥
IsFormat (Redo n) = ⊥

-- ---- many actions

-- Actions without a note one after the other, each with its answer.
abbrev pub Runs : History → List Action → List Answer → History → Type 0
Runs h [] [] after = after ≡ h
Runs h (action ∷ actions) (answer ∷ answers) after = (mid : History) × Acts action [] h answer mid × Runs mid actions answers after
Runs h [] (answer ∷ answers) after = ⊥
Runs h (action ∷ actions) [] after = ⊥
