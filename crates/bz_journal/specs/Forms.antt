-- What a run has of a file, a course or texts alone, and what an action does to it.
use Rattle.std.specs.Prelude.{◌≡◌, ◌≤◌, ℕ, Bool, true, List, length, Option, IfSome, Result, Ok, Err, Vec}
use Rattle.std.specs.declared.alloc.Global.{Global}
use Rattle.bz_journal.specs.Words.{Bytes, IsSmall, Operation, ReadFault, Target}
use Rattle.bz_files.specs.declared.files.Files.{Ghosts as FilesOf}
use Rattle.bz_journal.specs.Actions.{Action, Do}
use Rattle.bz_journal.specs.Editing.{AreFirstDigests, IsSeenIn}
use Rattle.bz_journal.specs.History.{Answer, History, present}
use Rattle.bz_journal.specs.Keeping.{HasActed, KeepsPair}
use Rattle.bz_journal.specs.Shown.{HoldsSteps, OpensText, session_history}
use Rattle.bz_journal.specs.State.{SessionState, session_trail}
use Rattle.bz_journal.specs.declared.action.Reply.{Reply}
use Rattle.bz_journal.specs.declared.doing.Seen.{Seen}
use Rattle.bz_journal.specs.declared.keeping.KeepFault.{KeepFault}
use Rattle.bz_journal.specs.declared.past.Form.{Form}
use Rattle.bz_journal.specs.declared.past.Form.TheVariants as f

-- its history
abbrev pub past_history : Form → History
past_history (f.Course session) = session_history session
past_history (f.Alone history) = history

-- What is kept of a course: digests of the first texts, what was seen in the present one, and that itself.
abbrev pub IsPast : Form → List Bytes → Seen → Option (Vec ℕ Global) → Type 0
IsPast (f.Course session) digests seen text =
    IsSeenIn session.tree seen × AreFirstDigests digests (session_history session).texts × IfSome text (λ own. own.items ≡ present (session_history session))
IsPast (f.Alone history) digests seen text = Unit {0}

-- Opening a text gives a course, as it gives a session.
abbrev pub OpensPast : Bytes → Bytes → Result Form ReadFault → Type 0
OpensPast current text (Ok form) = (session : SessionState) × (form ≡ f.Course session) × OpensText current text (Ok session)
OpensPast current text (Err fault) = OpensText current text (Err fault)

-- A course holds what a session holds; texts alone are two at most.
abbrev pub HoldsPast : Form → Type 0
HoldsPast (f.Course session) = HoldsSteps session
HoldsPast (f.Alone history) = length history.texts ≤ 2

-- An action is done in a course as in a session. Of a course of one text a command that is said to be the last action may leave texts
-- alone. A course that is made of texts alone is small.
abbrev pub ActsIn : Bool → Action → Bytes → Form → Answer → Form → Type 0
ActsIn last action note (f.Course s) answer (f.Course t) = HasActed action note s answer t
ActsIn last action note (f.Course s) answer (f.Alone after) =
    (last ≡ true) × ((operation : Operation) × (target : Target) × (action ≡ Do operation target)) × (length (session_history s).texts ≡ 1)
ActsIn last action note (f.Alone before) answer (f.Course t) = IsSmall (session_trail t)
ActsIn last action note (f.Alone before) answer (f.Alone after) = Unit {0}

-- An action is kept of a course as of a session. A course that is made of texts alone is small; where none is made they stay.
abbrev pub KeepsIn : {F : Type 0} → FilesOf F → Action → Bytes → Bytes → Form → Result Reply KeepFault → Form → F → F → Type 0
KeepsIn files action note file (f.Course s) answer (f.Course t) old new = KeepsPair files action note file s answer t old new
KeepsIn files action note file (f.Course s) answer (f.Alone after) old new = ⊥
KeepsIn files action note file (f.Alone before) answer (f.Course t) old new = IsSmall (session_trail t)
KeepsIn files action note file (f.Alone before) answer (f.Alone after) old new = after ≡ before
