-- What the outputs hold after a run, or a part of one.
use Rattle.std.specs.Prelude.{◌≡◌, ◌⊎◌, ◌≤◌, ℕ, List, [], ◌∷◌, Bool, true, false, Option}
use Rattle.std.specs.Io.KnownBytes.{Appends}
use Rattle.bz_streams.specs.Faults.{Rises, AppendsSome, AppendsUnlessFailed}
use Rattle.bz_items.specs.Characters.{Bytes}

-- By a writer with these counts of faults before and after, a text was written; or, where the writer is closed, a failure
-- left a beginning of it.
abbrev pub Writes : Bool → ℕ → ℕ → Option Bytes → Option Bytes → Bytes → Type 0
Writes false faults faults' old new out = (faults' ≡ faults) × Appends old new out
Writes true faults faults' old new out = Rises faults faults' × AppendsSome old new out

-- Lines were printed one after the other, each whole unless its writing failed.
abbrev pub Reports : ℕ → ℕ → Option Bytes → Option Bytes → List Bytes → Type 0
Reports faults faults' old new [] = (faults' ≡ faults) × (new ≡ old)
Reports faults faults' old new (line ∷ lines) =
    (mid_faults : ℕ) × (mid : Option Bytes) × AppendsUnlessFailed faults mid_faults old mid line × Reports mid_faults faults' mid new lines

-- a writer that is closed already is left as it is
abbrev pub WritesUnlessClosed : Bool → Bool → ℕ → ℕ → Option Bytes → Option Bytes → Bytes → Type 0
WritesUnlessClosed false closes faults faults' old new out = Writes closes faults faults' old new out
WritesUnlessClosed true closes faults faults' old new out = (closes ≡ false) × (faults' ≡ faults) × (new ≡ old)

-- the count stays or rises
pub record Counts (old new : ℕ) : Type 0 where
  pub grows : old ≤ new
  pub rises : (new ≡ old) ⊎ Rises old new
