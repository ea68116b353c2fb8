-- How a file is opened that has a journal.
use Rattle.std.specs.Prelude.{◌≡◌, ◌≢◌, ◌⊎◌, ◌++◌, ℕ, Bool, true, List, [], ◌∷◌, codes, length, nat_le, take, if◌then◌else◌, Option, Some, None, IfSome, Result, Ok, Err}
use Rattle.std.specs.List.{concat}
use Rattle.std.specs.Option.{option_map}
use Rattle.std.specs.FinMap.{get}
use Rattle.std.specs.Fmt.Cut.{floor_char_boundary}
use Rattle.bz_buildozer.specs.Words.{Edit, IsOtherVersion, ResumeFault, Journal, NoJournal, stands, IsStale, Bytes, Accepted, Folder, journal_name, Holds, escaped_text, named_line, History, present}
use Rattle.bz_resume.specs.declared.fault.ResumeFault.TheVariants as f
use Rattle.bz_buildozer.specs.Found.{IsNameOf, PackagesFound, Settled, as_package, as_file, as_unedited, folder_of, Opened, Used, opened_with, package_number}
use Rattle.bz_buildozer.specs.Opens.{Opens, Takes}
use Rattle.bz_buildozer.specs.Reported.{unedited_lines}

-- the bytes are a journal of this history, which matches the text at this number
abbrev pub StandsAt : Bytes → Bytes → History → ℕ → Type 0
StandsAt bytes text h at = ((es : List (List Edit)) × Journal bytes h es) × (stands h text ≡ Some at)

-- why no history goes on with a journal: a fault of resuming it, or it is the journal of another package, which has this path
pub data JournalFault : Type 0 where
  of_resuming : ResumeFault → JournalFault
  of_package : Bytes → JournalFault

-- What comes of a journal for a file of this package that holds this text: the history that goes on at the number where it is
-- for the text; or why none does: the journal names another version, it matches the text nowhere, it is the journal of another
-- package, or none at all.
abbrev pub JournalGives : Bytes → Bytes → Bytes → Result History JournalFault → Type 0
JournalGives current bytes text (Ok history) =
    (h : History) × (at : ℕ) × StandsAt bytes text h at × (h.package ≡ current) × (history ≡ record h { cursor = at; before = at })
JournalGives current bytes text (Err (of_package other)) =
    (h : History) × (at : ℕ) × StandsAt bytes text h at × (h.package ≡ other) × (other ≢ current)
JournalGives current bytes text (Err (of_resuming f.Version)) = IsOtherVersion bytes
JournalGives current bytes text (Err (of_resuming f.Stale)) = IsStale bytes text
JournalGives current bytes text (Err (of_resuming f.Damaged)) = (IsOtherVersion bytes → ⊥) × NoJournal bytes
JournalGives current bytes text (Err (of_resuming f.Memory)) = ⊥

abbrev pub file_of_journal : Bytes → Bytes → Result History JournalFault → Option Opened
file_of_journal name text (Ok history) = Some (opened_with name text history)
file_of_journal name text (Err fault) = None

-- as much of the path of a package as is printed: of a long one the characters in its first 200 bytes
abbrev pub shown_package : Bytes → Bytes
shown_package path = if nat_le (length path) 200 then path else take (floor_char_boundary path 200) path

-- a word on the journal of this name, and below it this, and that it may be deleted
abbrev pub deleted_lines : Bytes → Bytes → Bytes → List Bytes
deleted_lines journal word says = named_line journal word ∷ concat (says ∷ escaped_text journal ∷ codes " to begin a new history\n" ∷ []) ∷ []

-- What is reported of the journal with this name: the name and the number of the fault, and below it what it means and what may be done.
abbrev pub fault_lines : Bytes → JournalFault → List Bytes
fault_lines journal (of_resuming f.Memory) = named_line journal (codes "Memory (8)") ∷ []
fault_lines journal (of_resuming f.Damaged) = deleted_lines journal (codes "Damaged (71)") (codes "buildozer: this is no journal, or was changed since it was written: delete ")
fault_lines journal (of_resuming f.Version) = deleted_lines journal (codes "Version (72)") (codes "buildozer: a program of another version wrote it: use that one, or delete ")
fault_lines journal (of_resuming f.Stale) = deleted_lines journal (codes "Stale (73)") (codes "buildozer: the file changed since the last run with --journal: restore it, or delete ")
fault_lines journal (of_package other) = named_line journal (codes "Damaged (71)")
    ∷ concat (codes "buildozer: " ∷ escaped_text journal ∷ codes " was written for //" ∷ escaped_text (shown_package other) ∷ codes ": move it back there, or delete it to begin a new history\n" ∷ []) ∷ []

abbrev pub lines_of_journal : Bytes → Result History JournalFault → List Bytes
lines_of_journal name (Ok history) = []
lines_of_journal name (Err fault) = fault_lines (journal_name name) fault

-- Without a journal a file is opened as its text says; with one it goes on with its history, or that journal's fault is reported.
abbrev pub TakesBeside : Option Bytes → Bytes → Bytes → Bytes → Option Opened → List Bytes → Type 0
TakesBeside None current name text file lines = Takes current name text file lines
TakesBeside (Some bytes) current name text file lines = (given : Result History JournalFault) × JournalGives current bytes text given
    × (file ≡ file_of_journal name text given) × (lines ≡ lines_of_journal name given)

-- the journal that is read beside a file: none where journals are not kept
abbrev pub journal_beside : Bool → Folder → Bytes → Option Bytes
journal_beside journals folder name = if journals then get folder (journal_name name) else None

-- The file that is found for a package is opened, with its journal where journals are kept.
abbrev pub OpensBeside : Bool → Folder → Bytes → Option PackagesFound → Option Opened → List Bytes → Type 0
OpensBeside journals folder current (Some found) file lines = TakesBeside (journal_beside journals folder found.0) current found.0 found.1 file lines
OpensBeside journals folder current None file lines = Opens folder current None file lines

-- What a path means is opened so: the file that was found for its package, or the file of this name, whose labels are of its folder. One that
-- isn't edited is reported.
abbrev pub OpensAs : Bool → Folder → Bytes → Settled → Option PackagesFound → Option Opened → List Bytes → Type 0
OpensAs journals folder path (as_package current) found file lines = OpensBeside journals folder current found file lines
OpensAs journals folder path (as_file name) (Some found) file lines =
    TakesBeside (journal_beside journals folder found.0) (folder_of found.0) found.0 found.1 file lines
OpensAs journals folder path (as_file name) None file lines = ⊥
OpensAs journals folder path (as_unedited why) found file lines = (file ≡ None) × (lines ≡ unedited_lines path why)

-- ---- what an opening leaves, whatever comes

-- an open file of this package, or the file of this name: it has a name of it and the text that the folder has there, and its history is
-- what its journal says, where journals are kept and there is one, else it begins with that text; its package is its folder
pub record IsOpenedIn (journals : Bool) (folder : Folder) (current : Bytes) (file : Opened) : Type 0 where
  pub named : IsNameOf current file.name
  pub there : get folder file.name ≡ Some file.read
  pub opens : TakesBeside (journal_beside journals folder file.name) (folder_of file.name) file.name file.read (Some file) []

-- A package that was not used is the last one from now on, with such a file or none; or memory was refused, and nothing changes.
abbrev pub Adds : Bytes → (Opened → Type 0) → Option ℕ → List Used → List Used → Type 0
Adds current Is number before after = ((after ≡ before) × (number ≡ None))
    ⊎ ((package_number current before ≡ None) × (file : Option Opened) × (after ≡ before ++ record { «package» = current; file = file } ∷ [])
    × (number ≡ option_map (λ _. length before) file) × IfSome file Is)

-- ---- laws

-- One thing comes of a journal.
abbrev pub JournalGivesOne : Type 0
JournalGivesOne = (current bytes text : Bytes) (one other : Result History JournalFault) → JournalGives current bytes text one
    → JournalGives current bytes text other → one ≡ other

-- A file that goes on and holds an accepted text is opened, in its package and with its journal, at that text, and with all of its texts.
abbrev pub HeldFilesGoOn : Type 0
HeldFilesGoOn = (folder : Folder) (name current text : Bytes) (texts : List Bytes) (file : Option Opened) (lines : List Bytes)
    → Holds folder name current text texts → Accepted text → TakesBeside (journal_beside true folder name) current name text file lines
    → (opened : Opened) × (file ≡ Some opened) × (present opened.history ≡ text) × (opened.history.texts ≡ texts)
