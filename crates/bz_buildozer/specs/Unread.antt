-- Which files could not be read in a run, by its acts.
use Rattle.std.specs.Prelude.{◌≡◌, ◌++◌, ◌∷◌, List, Option, None, Err}
use Rattle.bz_files.specs.Orders.{Act, Read, with_acts}
use Rattle.bz_files.specs.declared.files.FileFault.TheVariants as q
use Rattle.bz_files.specs.declared.files.FileKind.{FileKind}
use Rattle.bz_buildozer.specs.Words.{Bytes}

-- the acts of files when a run began, and those when it ended, where they are kept
pub record RunActs : Type 0 where
  pub began : Option (List Act)
  pub ended : Option (List Act)

-- of a run of which no acts are kept
abbrev pub no_acts : RunActs
no_acts = record { began = None; ended = None }

-- Acts came, and none went.
abbrev pub ActsGrow : Option (List Act) → Option (List Act) → Type 0
ActsGrow before after = (done : List Act) × (after ≡ with_acts before done)

-- What came between these acts came in the run.
pub record ActsAreAmong (before after : Option (List Act)) (acts : RunActs) : Type 0 where
  pub front : ActsGrow acts.began before
  pub rest : ActsGrow after acts.ended

-- A read of the file of this name failed in the run.
abbrev pub IsUnreadInRun : RunActs → Bytes → Type 0
IsUnreadInRun acts name = (front : List Act) × (kind : FileKind) × (rest : List Act)
    × (acts.ended ≡ with_acts acts.began (front ++ Read name kind (Err q.Open) ∷ rest))
