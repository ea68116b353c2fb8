-- How a file is given new bytes, or a journal and its file are, one after the other.
use Rattle.std.specs.Prelude.{◌≡◌, ◌⊎◌, List, ℕ, Result, Some, true, OnOk}
use Rattle.std.specs.FinMap.{get}
use Rattle.bz_files.specs.Acts.{Counted, GoesThrough, OfNewest}
use Rattle.bz_files.specs.Folder.{Folder, Text, SameBut, Elapses, new_name, with_file}
use Rattle.bz_files.specs.declared.files.FileFault.{FileFault}
use Rattle.bz_files.specs.declared.files.Files.{Ghosts as FilesOf}

-- the names under which the bytes of the two are written first
abbrev pub IsNew : Text → Text → Text → Type 0
IsNew journal file name = (name ≡ new_name journal) ⊎ (name ≡ new_name file)

-- the folder with the journal's bytes, and then the file's
abbrev pub with_both : Text → List ℕ → Text → List ℕ → Folder → Folder
with_both journal stored file text old = with_file (with_file old journal stored) file text

abbrev pub AreReplaced : Text → List ℕ → Text → List ℕ → Folder → Folder → Type 0
AreReplaced journal stored file text old now = SameBut (IsNew journal file) (with_both journal stored file text old) now

-- a moment of a call that keeps both: neither is there yet, the journal alone, or both
abbrev pub IsKeeping : Text → List ℕ → Text → List ℕ → Folder → Folder → Type 0
IsKeeping journal stored file text old now = SameBut (IsNew journal file) old now
    ⊎ (SameBut (IsNew journal file) (with_file old journal stored) now ⊎ AreReplaced journal stored file text old now)

-- a moment of a call that keeps both only where the file holds the text `standing`: the folder is as it was, or the file held
-- that text
abbrev pub IsChecking : Text → Text → List ℕ → Text → List ℕ → Folder → Folder → Type 0
IsChecking standing journal stored file text old now = (now ≡ old) ⊎ ((get old file ≡ Some standing) × IsKeeping journal stored file text old now)

-- Each folder that occurs during a call is P of the one before it, and after an Ok the last is Q of that. No new file is left waiting.
pub record PutsFiles {F : Type 0} (files : FilesOf F) (P Q : Folder → Folder → Type 0) (result : Result (Unit {0}) FileFault) (old new : F) : Type 0 where
  pub goes : files.honest old ≡ true → GoesThrough files.folder files.moment files.since P (λ was now. OnOk result (Q was now)) old new
  pub waiting : files.honest old ≡ true → files.waiting new ≡ files.waiting old
  pub counted : Counted files.faults files.honest result old new

-- The same for the newest of the new files, which waits no more.
pub record PutsNewest {F : Type 0} (files : FilesOf F) (P Q : Text → List ℕ → Folder → Folder → Type 0) (result : Result (Unit {0}) FileFault) (old new : F) : Type 0 where
  pub goes : files.honest old ≡ true → OfNewest (files.waiting old) (λ name bytes _.
      GoesThrough files.folder files.moment files.since (P name bytes) (λ was now. OnOk result (Q name bytes was now)) old new)
  pub waiting : files.honest old ≡ true → OfNewest (files.waiting old) (λ _ _ rest. files.waiting new ≡ rest)
  pub counted : Counted files.faults files.honest result old new

-- Files are replaced where one of them holds the bytes `standing`, and else nothing is touched at any moment. Each folder that occurs during the call is
-- P of the one before it, and after an Ok the last is Q of that. No new file is left waiting.
pub record RewritesHeld {F : Type 0} (files : FilesOf F) (file standing : Text) (P Q : Folder → Folder → Type 0) (result : Result (Unit {0}) FileFault) (old new : F) : Type 0 where
  pub held : files.honest old ≡ true → OnOk result (get (files.folder old) file ≡ Some standing)
  pub replaced : files.honest old ≡ true → OnOk result (Q (files.folder old) (files.folder new))
  pub untouched : files.honest old ≡ true → (get (files.folder old) file ≡ Some standing → ⊥) → files.folder new ≡ files.folder old
  pub apart : files.honest old ≡ true → (get (files.folder old) file ≡ Some standing → ⊥)
      → (now : Folder) → files.since new (files.moment old) now → now ≡ files.folder old
  pub either : files.honest old ≡ true → P (files.folder old) (files.folder new)
  pub time : files.honest old ≡ true → Elapses (files.moment old) (files.moment new) (files.since old) (files.since new) (P (files.folder old))
  pub waiting : files.honest old ≡ true → files.waiting new ≡ files.waiting old
  pub counted : Counted files.faults files.honest result old new
