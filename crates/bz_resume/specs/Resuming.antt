-- A file whose journal records its history, and what a stop leaves of the two.
use Rattle.std.specs.Prelude.{◌≡◌, ◌≢◌, ◌⊎◌, ◌≤◌, ℕ, true, List, [], ◌∷◌, Some, None, Result, Ok, Err, IfErr, OnOk, IsErrOf}
use Rattle.std.specs.FinMap.{get}
use Rattle.bz_resume.specs.Words.{Edit, Rises, FileFault, FileStamp, Read, ReadsRegular, pair_acts, with_act, with_acts, Ghosts as FilesOf}
use Rattle.bz_files.specs.Folder.{Folder, Text, Elapses, new_name}
use Rattle.bz_files.specs.declared.files.FileFault.TheVariants as q
use Rattle.bz_files.specs.declared.files.FileKind.TheVariants as k
use Rattle.bz_resume.specs.declared.pair_fault.PairFault.{PairFault}
use Rattle.bz_resume.specs.declared.pair_fault.PairFault.TheVariants as f
use Rattle.bz_resume.specs.Journals.{History, Journal, stands, text_at}
use Rattle.bz_resume.specs.Pair.{journal_name}

-- the present text
abbrev pub present : History → Text
present h = text_at h h.cursor

-- what records the texts of a file that holds `text`: it has no journal, and these are that text alone; or its journal records a
-- history of this package and these texts, which matches that text
abbrev pub IsRecordedBy : Folder → Text → Text → Text → List Text → Type 0
IsRecordedBy folder file current text texts = ((get folder (journal_name file) ≡ None) × (texts ≡ text ∷ []))
    ⊎ ((bytes : Text) × (h : History) × (es : List (List Edit)) × (place : ℕ) × (get folder (journal_name file) ≡ Some bytes)
    × Journal bytes h es × (h.package ≡ current) × (texts ≡ h.texts) × (stands h text ≡ Some place))

-- the file holds this text and goes on, in this package, with these texts
pub record Holds (folder : Folder) (file current text : Text) (texts : List Text) : Type 0 where
  pub holds : get folder file ≡ Some text
  pub history : IsRecordedBy folder file current text texts

-- the file goes on, in this package, with these texts
abbrev pub Resumes : Folder → Text → Text → List Text → Type 0
Resumes folder file current texts = (text : Text) × Holds folder file current text texts

-- one action leads from h to this history: the text that was present before it is the one that is present in h
abbrev pub FollowsKept : History → History → Type 0
FollowsKept h after = (after.package ≡ h.package) × (text_at after after.before ≡ present h)

-- An action leads from h to another history, and these are its journal and its text. The folder resumes with the texts of h, and
-- the text at which the action was begun is its present one; the file may hold another.
pub record MayResume (folder : Folder) (file standing stored text : Text) (h after : History) (es : List (List Edit)) : Type 0 where
  pub resumes : Resumes folder file h.package h.texts
  pub begun : standing ≡ present h
  pub follows : FollowsKept h after
  pub journal : Journal stored after es
  pub written : text ≡ present after

-- Of a folder as it was, this one differs at most in the file, its journal, and the names under which these are written first.
abbrev pub OthersStay : Text → Folder → Folder → Type 0
OthersStay file old now = (name : Text) → name ≢ file → name ≢ journal_name file → name ≢ new_name file → name ≢ new_name (journal_name file)
    → get now name ≡ get old name

-- in the package of h the file goes on with the texts before the action, or with those after it, and it holds the present text
-- of either; other files are as they were
pub record Survives (file : Text) (h after : History) (old now : Folder) : Type 0 where
  pub holds : Holds now file h.package (present h) h.texts
      ⊎ (Holds now file h.package (present h) after.texts ⊎ Holds now file h.package (present after) after.texts)
  pub others : OthersStay file old now

-- what is so of any two histories where an action leads from one to the other, and the folder resumes with the first
abbrev pub WhereResuming : Folder → Text → Text → Text → Text → (History → History → Type 0) → Type 0
WhereResuming folder file standing stored text P = (h after : History) (es : List (List Edit)) → MayResume folder file standing stored text h after es → P h after

-- A journal and then its file are given these bytes, where the file still holds the text at which that was begun. (The file's name, that
-- text, the bytes of both, what came of it, and the files before and after.)
pub record KeepsHeld {F : Type 0} (files : FilesOf F) (file standing bytes text : Text) (answer : Result (Unit {0}) PairFault) (old new : F) : Type 0 where
  -- At each moment the file goes on with the texts of the one history or of the other, and at an Ok with those of the other.
  pub each : files.honest old ≡ true → WhereResuming (files.folder old) file standing bytes text (λ h after. (now : Folder) → files.since new (files.moment old) now
      → (now ≡ files.folder old) ⊎ Survives file h after (files.folder old) now)
  pub time : files.honest old ≡ true → WhereResuming (files.folder old) file standing bytes text (λ h after. Elapses (files.moment old) (files.moment new)
      (files.since old) (files.since new) (λ now. (now ≡ files.folder old) ⊎ Survives file h after (files.folder old) now))
  pub resumes : files.honest old ≡ true → WhereResuming (files.folder old) file standing bytes text (λ h after. (now : Folder) → files.since new (files.moment old) now
      → Resumes now file h.package h.texts ⊎ Resumes now file h.package after.texts)
  pub kept : files.honest old ≡ true → OnOk answer (WhereResuming (files.folder old) file standing bytes text (λ h after.
      Holds (files.folder new) file h.package (present after) after.texts × OthersStay file (files.folder old) (files.folder new)))
  -- The journal is as it was, or has its bytes.
  pub stored : files.honest old ≡ true → (now : Folder) → files.since new (files.moment old) now
      → (get now (journal_name file) ≡ get (files.folder old) (journal_name file)) ⊎ (get now (journal_name file) ≡ Some bytes)
  pub journal : files.honest old ≡ true → OnOk answer (get (files.folder new) (journal_name file) ≡ Some bytes)
  -- Where the file holds another text, that is said, and at no moment is anything touched: or want of memory, where the read had that.
  pub checked : files.honest old ≡ true → get (files.folder old) file ≢ Some standing → (IsErrOf answer f.Changed) ⊎ ((IsErrOf answer f.Open)
      ⊎ ((IsErrOf answer f.Memory) × (files.acts new ≡ with_act (files.acts old) (Read file k.Regular (Err q.Memory)))))
  pub apart : files.honest old ≡ true → get (files.folder old) file ≢ Some standing
      → (now : Folder) → files.since new (files.moment old) now → now ≡ files.folder old
  pub changed : files.honest old ≡ true → IsErrOf answer f.Changed → get (files.folder old) file ≢ Some standing
  pub untouched : files.honest old ≡ true → IfErr answer (λ fault. fault ≢ f.Write
      → (now : Folder) → files.since new (files.moment old) now → now ≡ files.folder old)
  -- At an Ok the file was read, and both replaced in their order; at a fault but Write it was read alone.
  pub ordered : OnOk answer ((stamp : FileStamp) × (files.acts new ≡ with_acts (with_act (files.acts old) (Read file k.Regular (Ok tt)))
      (pair_acts (journal_name file) bytes file standing text stamp)))
  pub alone : IfErr answer (λ fault. fault ≢ f.Write
      → (read : Result (Unit {0}) FileFault) × (files.acts new ≡ with_act (files.acts old) (Read file k.Regular read)))
  pub regular : ReadsRegular (files.acts old) (files.acts new)
  -- A Write and an Open are counted, and nothing else.
  pub cause : (IsErrOf answer f.Write) ⊎ (IsErrOf answer f.Open) → Rises (files.faults old) (files.faults new)
  pub rest : (IsErrOf answer f.Write → ⊥) → (IsErrOf answer f.Open → ⊥) → files.faults new ≡ files.faults old
  pub count : files.faults old ≤ files.faults new
  pub honest : files.honest new ≡ files.honest old
