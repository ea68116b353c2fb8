-- What keeping an action leaves: an answer, and a file with its journal.
use Rattle.std.specs.Prelude.{◌≡◌, ◌≢◌, ◌≤◌, ◌<◌, ◌⊎◌, true, ℕ, List, length, Option, None, Some, Result, Ok, Err, IfErr, IsErrOf, IsOk, OnErr, OnOk}
use Rattle.std.specs.FinMap.{get}
use Rattle.bz_journal.specs.Words.{Bytes, Edit, Elapses, Folder, Holds, IsFormatted, IsSmall, Journal, OthersStay, Resumes, Rises, Survives, journal_name, journal_text}
use Rattle.bz_files.specs.Orders.{ReadsRegular}
use Rattle.bz_files.specs.declared.files.Files.{Ghosts as FilesOf}
use Rattle.bz_resume.specs.declared.pair_fault.PairFault.TheVariants as f
use Rattle.bz_journal.specs.Actions.{Action}
use Rattle.bz_journal.specs.declared.action.Reply.{Reply}
use Rattle.bz_journal.specs.declared.keeping.KeepFault.{KeepFault}
use Rattle.bz_journal.specs.declared.keeping.KeepFault.TheVariants.{Refused, Pair}
use Rattle.bz_journal.specs.History.{Answer, History, Acts, IsFormat, note_limit, present}
use Rattle.bz_journal.specs.declared.keeping.Written.{Written}
use Rattle.bz_journal.specs.Lasting.{IsSavedSession, saved}
use Rattle.bz_journal.specs.Shown.{session_history, IsOverEven}
use Rattle.bz_journal.specs.State.{SessionState, session_trail}

-- The action is done, or refused; or it is done and moved the history, and journal and file were not both replaced.
abbrev pub Keeps : Action → Bytes → History → Result Reply KeepFault → History → Type 0
Keeps action note h (Ok reply) after = Acts action note h (Ok reply) after
Keeps action note h (Err (Refused refusal)) after = Acts action note h (Err refusal) after
Keeps action note h (Err (Pair fault)) after = (reply : Reply) × Acts action note h (Ok reply) after × (after.cursor ≢ h.cursor)

-- the action itself is refused
abbrev pub IsRefused : KeepFault → Type 0
IsRefused (Refused refusal) = Unit {0}
IsRefused (Pair fault) = ⊥

-- the journal or the file could not be replaced, or the file could not be read
abbrev pub IsWriteOrOpen : Result Reply KeepFault → Type 0
IsWriteOrOpen (Ok reply) = ⊥
IsWriteOrOpen (Err (Refused refusal)) = ⊥
IsWriteOrOpen (Err (Pair fault)) = (fault ≡ f.Write) ⊎ (fault ≡ f.Open)

-- What an action did to a session: the one before, what it answered, and the one after.
pub record HasActed (action : Action) (note : Bytes) (s : SessionState) (answer : Answer) (t : SessionState) : Type 0 where
  pub within : s.cursor < length (session_history s).texts
  pub acts : Acts action note (session_history s) answer (session_history t)
  pub formatted : OnOk answer (IsFormat action → IsFormatted (present (session_history s)) (present (session_history t)))
  pub unmoved : OnErr answer (t ≡ s)
  pub even : length note ≤ note_limit → IsOverEven action (session_trail s) → IsOk answer
  pub small : IsSmall (session_trail s) → IsSmall (session_trail t)

-- what is written of a session: its journal, which is one, and its present text
pub record IsWrittenOf (t : SessionState) (w : Written) : Type 0 where
  pub stored : w.journal.items ≡ saved t
  pub own : IsSavedSession t
  pub text : w.text.items ≡ present (session_history t)

-- It is written where the cursor is another one than this; or memory was refused for it.
abbrev pub IsWrittenSince : {E : Type 0} → SessionState → ℕ → Result (Option Written) E → Type 0
IsWrittenSince t from (Ok None) = t.cursor ≡ from
IsWrittenSince t from (Ok (Some w)) = (t.cursor ≢ from) × IsWrittenOf t w
IsWrittenSince t from (Err e) = t.cursor ≢ from

-- What keeping an action does to files: to the file of this name and to its journal, by the history before and the one after it, and
-- by what was answered. (The files before and after.)
pub record KeepsFile {F : Type 0} (files : FilesOf F) (name : Bytes) (before after : History) (answer : Result Reply KeepFault) (old new : F) : Type 0 where
  -- the steps between the texts of the history after it, as its journal has them
  pub steps : List (List Edit)
  -- A stop at any moment leaves a file that goes on with the texts of before or after, and that holds the present text of either.
  pub each : files.honest old ≡ true → Resumes (files.folder old) name before.package before.texts
      → (now : Folder) → files.since new (files.moment old) now → (now ≡ files.folder old) ⊎ Survives name before after (files.folder old) now
  pub time : files.honest old ≡ true → Resumes (files.folder old) name before.package before.texts
      → Elapses (files.moment old) (files.moment new) (files.since old) (files.since new)
      (λ now. (now ≡ files.folder old) ⊎ Survives name before after (files.folder old) now)
  -- Where the text is another one then, the file holds it, and the journal is that of its history and of these steps between its texts.
  pub kept : files.honest old ≡ true → Resumes (files.folder old) name before.package before.texts → OnOk answer (after.cursor ≢ before.cursor
      → Holds (files.folder new) name before.package (present after) after.texts × OthersStay name (files.folder old) (files.folder new))
  pub journal : files.honest old ≡ true → OnOk answer (after.cursor ≢ before.cursor → get (files.folder new) (journal_name name) ≡ Some (journal_text after steps))
  pub own : OnOk answer (after.cursor ≢ before.cursor → Journal (journal_text after steps) after steps)
  pub stored : files.honest old ≡ true → (now : Folder) → files.since new (files.moment old) now
      → (get now (journal_name name) ≡ get (files.folder old) (journal_name name)) ⊎ (get now (journal_name name) ≡ Some (journal_text after steps))
  -- That the file holds another text is said only where it does. Nothing is replaced where the present text stays, where the action is
  -- refused, and at every fault but Write.
  pub changed : files.honest old ≡ true → IsErrOf answer (Pair f.Changed) → get (files.folder old) name ≢ Some (present before)
  pub still : OnOk answer (after.cursor ≡ before.cursor → new ≡ old)
  pub refused : IfErr answer (λ fault. IsRefused fault → new ≡ old)
  pub untouched : files.honest old ≡ true → IfErr answer (λ fault. fault ≢ Pair f.Write
      → (now : Folder) → files.since new (files.moment old) now → now ≡ files.folder old)
  -- Regular files alone are read. A Write and an Open are counted, and nothing else.
  pub regular : ReadsRegular (files.acts old) (files.acts new)
  pub cause : IsWriteOrOpen answer → Rises (files.faults old) (files.faults new)
  pub rest : (IsWriteOrOpen answer → ⊥) → files.faults new ≡ files.faults old
  pub count : files.faults old ≤ files.faults new
  pub honest : files.honest new ≡ files.honest old

-- What doing an action in a session and keeping it does to the session, and to its file and the journal, which has the steps of the session.
pub record KeepsPair {F : Type 0} (files : FilesOf F) (action : Action) (note file : Bytes) (s : SessionState) (answer : Result Reply KeepFault) (t : SessionState) (old new : F) : Type 0 where
  pub keeps : Keeps action note (session_history s) answer (session_history t)
  pub refused : IfErr answer (λ fault. IsRefused fault → t ≡ s)
  pub even : length note ≤ note_limit → IsOverEven action (session_trail s) → IfErr answer (λ fault. IsRefused fault → ⊥)
  pub small : IsSmall (session_trail s) → IsSmall (session_trail t)
  pub pair : KeepsFile files file (session_history s) (session_history t) answer old new
  pub steps_are : pair.steps ≡ t.steps
