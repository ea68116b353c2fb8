-- What calls of files do. Each relation takes members of the trait `Files`, and the files before and after.
use Rattle.std.specs.Prelude.{◌≡◌, ◌⊎◌, ◌≤◌, ◌++◌, ◌∷◌, [], ℕ, Bool, List, Result, IfErr, IsOk, IsErr}
use Rattle.bz_files.specs.Faults.{Rises}
use Rattle.bz_files.specs.Folder.{Folder, Text, Elapses}
use Rattle.bz_files.specs.declared.files.FileFault.{FileFault}
use Rattle.bz_files.specs.declared.files.FileFault.TheVariants as f

-- what is so of the newest of the new files that wait, where one does: of its name, its bytes and those before it
abbrev pub OfNewest : List (Text × List ℕ) → (Text → List ℕ → List (Text × List ℕ) → Type 0) → Type 0
OfNewest waiting P = (rest : List (Text × List ℕ)) (name : Text) (bytes : List ℕ) → waiting ≡ rest ++ (name, bytes) ∷ [] → P name bytes rest

-- Each folder that occurs during a call is P of the one before it, and the last is Q of that.
pub record GoesThrough {F : Type 0} (folder : F → Folder) (moment : F → ℕ) (since : F → ℕ → Folder → Type 0) (P Q : Folder → Folder → Type 0) (old new : F) : Type 0 where
  pub time : Elapses (moment old) (moment new) (since old) (since new) (P (folder old))
  pub done : Q (folder old) (folder new)

-- Each failure is counted, and nothing else. (Honest files stay so.)
pub record Counted {F T : Type 0} (faults : F → ℕ) (is_honest : F → Bool) (result : Result T FileFault) (old new : F) : Type 0 where
  pub kinds : IfErr result (λ fault. (fault ≡ f.Write) ⊎ (fault ≡ f.Memory))
  pub cause : IsErr result → Rises (faults old) (faults new)
  pub kept : IsOk result → faults new ≡ faults old
  pub count : faults old ≤ faults new
  pub honest : is_honest new ≡ is_honest old
