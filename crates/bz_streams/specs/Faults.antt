-- Readers and writers that count their faults.
use Rattle.std.specs.Prelude.{◌≡◌, ◌⊎◌, ◌≤◌, ◌<◌, ℕ, List, length, take, Option, Result, Ok, Err}
use Rattle.std.specs.Io.KnownBytes.{Appends}
pub use Rattle.bz_files.specs.Faults.{Rises}

-- a beginning of these bytes was written
pub record AppendsSome (old new : Option (List ℕ)) (bytes : List ℕ) : Type 0 where
  pub count : ℕ
  pub within : count ≤ length bytes
  pub appends : Appends old new (take count bytes)

-- a beginning of these bytes was written, and not all of them
pub record AppendsPart (old new : Option (List ℕ)) (bytes : List ℕ) : Type 0 where
  pub count : ℕ
  pub below : count < length bytes
  pub appends : Appends old new (take count bytes)

-- By a writer with this count of faults before and after, all of these bytes were written, and the count stayed; or it failed, the
-- count rose, and a beginning was written, and not all.
abbrev pub AppendsUnlessFailed : ℕ → ℕ → Option (List ℕ) → Option (List ℕ) → List ℕ → Type 0
AppendsUnlessFailed faults faults' old new bytes = ((faults' ≡ faults) × Appends old new bytes) ⊎ (Rises faults faults' × AppendsPart old new bytes)

-- an answer that says which of the two
abbrev pub AnswersAppends : {T E : Type 0} → Result T E → ℕ → ℕ → Option (List ℕ) → Option (List ℕ) → List ℕ → Type 0
AnswersAppends (Ok done) faults faults' old new bytes = (faults' ≡ faults) × Appends old new bytes
AnswersAppends (Err fault) faults faults' old new bytes = Rises faults faults' × AppendsPart old new bytes
