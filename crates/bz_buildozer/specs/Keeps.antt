-- What keeping an action does to the packages of a run and to the files.
use Rattle.std.specs.Prelude.{◌≡◌, ◌⊎◌, ◌==◌, ◌||◌, not, ℕ, true, List, Some, Result, Ok, Err, ◌≢◌, ◌&&◌, Bool, false, if◌then◌else◌, Option, None, IfErr}
use Rattle.bz_buildozer.specs.Words.{Ghosts as FilesOf, Elapses, Folder, Bytes, IsRefused, Counts, Cut, Edit, Journal, journal_text, journal_name, Holds, OthersStay}
use Rattle.bz_files.specs.Faults.{Rises}
use Rattle.bz_buildozer.specs.Sessions.{Action, Reply, Acts, Answer, History, present, KeepFault, Refused, Pair, Keeps, KeepsFile}
use Rattle.bz_streams.specs.declared.exit.Cut.TheVariants as c
use Rattle.bz_buildozer.specs.Found.{Opened, Used, file_at, with_opened}
use Rattle.std.specs.FinMap.{get}
use Rattle.std.specs.Option.{option_map_or}

-- A folder of honest files was the same at each moment of the call.
abbrev pub KeepsFolder : {F : Type 0} → FilesOf F → F → F → Type 0
KeepsFolder files old new = Elapses (files.moment old) (files.moment new) (files.since old) (files.since new) (λ now. now ≡ files.folder old)

-- Files are read: a folder of honest ones stays the same, and a fault of theirs is counted and cuts what is opened. (Why it is cut.)
pub record ReadsFiles {F : Type 0} (files : FilesOf F) (why : Cut) (old new : F) : Type 0 where
  pub folder : files.honest old ≡ true → files.folder new ≡ files.folder old
  pub time : files.honest old ≡ true → KeepsFolder files old new
  pub cut : (why ≡ c.Whole) ⊎ (why ≡ c.Memory) ⊎ ((why ≡ c.Files) × Rises (files.faults old) (files.faults new))
  pub steady : why ≡ c.Whole → files.faults new ≡ files.faults old
  pub counts : Counts (files.faults old) (files.faults new)
  pub honest : files.honest new ≡ files.honest old

-- the file after an answer that left it this history. Where journals are kept (the flag) its pair was written where the present text is
-- another one, and it is left alone from then on where the pair could not be written.
abbrev pub file_left : Bool → Result Reply KeepFault → History → Opened → Opened
file_left journals (Err (Refused refusal)) after file = record file { history = after }
file_left journals (Err (Pair fault)) after file = record file { history = after; left = true }
file_left true (Ok reply) after file = record file { history = after; written = file.written || not (after.cursor == file.history.cursor) }
file_left false (Ok reply) after file = record file { history = after }

abbrev pub after_keeping : Result Reply KeepFault → History → Opened → Opened
after_keeping = file_left true

-- An action with a note is done in the open file of the package with this number; where journals are kept, its journal and it are, or not.
pub record KeepsAt {F : Type 0} (journals : Bool) (files : FilesOf F) (place : ℕ) (action : Action) (note : Bytes) (before : List Used) (answer : Result Reply KeepFault)
    (after : List Used) (old new : F) : Type 0 where
  pub file : Opened
  pub history : History
  pub there : file_at place before ≡ Some file
  pub keeps : Keeps action note file.history answer history
  pub kept : after ≡ with_opened place (Some (file_left journals answer history file)) before
  pub pair : journals ≡ true → KeepsFile files file.name file.history history answer old new
  pub plain : journals ≡ false → (new ≡ old) × IfErr answer IsRefused

-- ---- laws

-- An action leaves the package of a history, and where it leaves the number of the present text it leaves the history.
abbrev pub StillIsSame : Type 0
StillIsSame = (action : Action) (note : Bytes) (h after : History) (answer : Answer) → Acts action note h answer after
    → (after.«package» ≡ h.«package») × (after.cursor ≡ h.cursor → after ≡ h)

-- ---- what becomes of a file and of the folder where a step is answered

-- the file after an answer that left it this history, where journals are kept (the flag) or are not
abbrev pub file_after : Bool → Answer → History → Opened → Opened
file_after journals (Err refusal) history file = record file { history = history }
file_after journals (Ok reply) history file = file_left journals (Ok reply) history file

-- A history is kept beside the file of this name: FILE.journal is the journal of it and of the steps between its texts, FILE holds the
-- present text and goes on with all of its texts, and each other name stays, but the two under which these are written first.
pub record KeepsHistory (name : Bytes) (history : History) (before after : Folder) : Type 0 where
  pub steps : List (List Edit)
  pub own : Journal (journal_text history steps) history steps
  pub saved : get after (journal_name name) ≡ Some (journal_text history steps)
  pub holds : Holds after name history.«package» (present history) history.texts
  pub others : OthersStay name before after

-- The folder after an answer: where another text is the present one its history is kept, else the folder stays.
abbrev pub FolderAfter : Bool → Answer → Opened → History → Folder → Folder → Type 0
FolderAfter journals (Err refusal) file history before after = after ≡ before
FolderAfter true (Ok reply) file history before after =
    ((history.cursor ≡ file.history.cursor) × (after ≡ before))
    ⊎ ((history.cursor ≢ file.history.cursor) × KeepsHistory file.name history before after)
FolderAfter false (Ok reply) file history before after = after ≡ before

-- a file, but none where journals are kept and it is left alone
abbrev pub left_out : Bool → Option Opened → Option Opened
left_out journals found = if journals && option_map_or (λ (file : Opened). file.left) found false then None else found

-- the open file of the package with this number is left alone
abbrev pub is_left_at : ℕ → List Used → Bool
is_left_at place used = option_map_or (λ (file : Opened). file.left) (file_at place used) false
