-- Histories that outlive the run: what is saved of a session, and what is resumed of a journal.
use Rattle.std.specs.Prelude.{◌≡◌, ◌⊎◌, ℕ, List, Some, None, Result, Ok, Err}
use Rattle.std.specs.FinMap.{get}
use Rattle.bz_journal.specs.Words.{AreSmall, Bytes, Edit, Folder, IsSmall, Journal, ResumeFault, Survives, journal_name, journal_text, stands}
use Rattle.bz_resume.specs.declared.fault.ResumeFault.TheVariants as f
use Rattle.bz_journal.specs.Actions.{Action}
use Rattle.bz_journal.specs.History.{History, Answer, Acts, Runs, present}
use Rattle.bz_journal.specs.Shown.{session_history}
use Rattle.bz_journal.specs.State.{SessionState, session_trail}

-- the journal of a session is that of its history and of its steps
abbrev pub saved : SessionState → Bytes
saved s = journal_text (session_history s) s.steps

abbrev pub IsSavedSession : SessionState → Type 0
IsSavedSession s = Journal (saved s) (session_history s) s.steps

-- What is resumed of a history and its steps at the text of a file: the same path, texts and notes, at the number where the history
-- matches that text, which is also the one before. Where the steps are those between the trees of the texts they stay so.
pub record GoesOn (h : History) (es : List (List Edit)) (text : Bytes) (s : SessionState) : Type 0 where
  pub at : ℕ
  pub stands_there : stands h text ≡ Some at
  pub history : session_history s ≡ record h { cursor = at; before = at }
  pub small : AreSmall h es → IsSmall (session_trail s)

-- the bytes are a journal, and this session is resumed of it
abbrev pub IsResumedSession : Bytes → Bytes → SessionState → Type 0
IsResumedSession bytes text s = (h : History) × (es : List (List Edit)) × Journal bytes h es × GoesOn h es text s

-- Of the journal of a history and its steps: the session that is resumed is theirs, or they match the text nowhere, or memory
-- was refused.
abbrev pub IsKnownSession : History → List (List Edit) → Bytes → Result SessionState ResumeFault → Type 0
IsKnownSession h es text (Ok s) = GoesOn h es text s
IsKnownSession h es text (Err f.Stale) = stands h text ≡ None
IsKnownSession h es text (Err f.Memory) = Unit {0}
IsKnownSession h es text (Err f.Damaged) = ⊥
IsKnownSession h es text (Err f.Version) = ⊥

-- ---- laws

-- A session that was saved and resumed at its own text is the same one, but that the present text counts as the one before.
abbrev pub IsAgain : SessionState → Result SessionState ResumeFault → Type 0
IsAgain s (Ok t) = (session_history t ≡ record (session_history s) { before = s.cursor }) × (IsSmall (session_trail s) → IsSmall (session_trail t))
IsAgain s (Err f.Memory) = Unit {0}
IsAgain s (Err f.Stale) = ⊥
IsAgain s (Err f.Damaged) = ⊥
IsAgain s (Err f.Version) = ⊥

-- two histories that differ at most in the number of the text that was present before
abbrev pub AreAlike : History → History → Type 0
AreAlike h g = g ≡ record h { before = g.before }

-- What an action with a note answers and leaves of the one it may answer and leave of the other, and they stay alike.
abbrev pub AlikeActs : Type 0
AlikeActs = (h g after : History) (action : Action) (note : Bytes) (answer : Answer) → AreAlike h g → Acts action note h answer after
    → (other : History) × Acts action note g answer other × AreAlike after other

-- Whatever is done to the one may be done to the other, with the same answers, and they stay alike.
abbrev pub AlikeGoesOn : Type 0
AlikeGoesOn = (h g after : History) (actions : List Action) (answers : List Answer) → AreAlike h g → Runs h actions answers after
    → (other : History) × Runs g actions answers other × AreAlike after other

-- a session of this package with these texts, at this one; or memory was refused
abbrev pub ResumesAt : Bytes → List Bytes → Bytes → Result SessionState ResumeFault → Type 0
ResumesAt current texts text (Ok s) = (s.«package» ≡ current) × ((session_history s).texts ≡ texts) × (present (session_history s) ≡ text)
ResumesAt current texts text (Err f.Memory) = Unit {0}
ResumesAt current texts text (Err f.Stale) = ⊥
ResumesAt current texts text (Err f.Damaged) = ⊥
ResumesAt current texts text (Err f.Version) = ⊥

-- An action that leads from h to after was being kept, and at some moment the file holds this text and the journal these bytes. What
-- `Session::resume` gives of the two, by what it says of the journal of a history (`known`), is a session at that text, with the texts
-- from before the action or with those after it.
abbrev pub StoppedIsResumed : Type 0
StoppedIsResumed =
    (file : Bytes) (h after : History) (old now : Folder) (text bytes : Bytes) (result : Result SessionState ResumeFault)
    → Survives file h after old now → get now file ≡ Some text → get now (journal_name file) ≡ Some bytes
    → ((stored : History) (es : List (List Edit)) → Journal bytes stored es → IsKnownSession stored es text result)
    → ResumesAt h.«package» h.texts text result ⊎ ResumesAt h.«package» after.texts text result
