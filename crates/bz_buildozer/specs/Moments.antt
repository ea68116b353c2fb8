-- The folder at each moment of a run with journals, whatever cuts the run or stops it.
use Rattle.std.specs.Prelude.{◌≡◌, ◌≢◌, ◌⊎◌, is_some, true, false, ℕ, List, [], ◌∷◌, ◌++◌, Option, Some, None, Result, Ok, Err, IfSome}
use Rattle.std.specs.FinMap.{get}
use Rattle.bz_buildozer.specs.Words.{Bytes, Folder, IsAside, PairFault, journal_name, Holds, Requested, operand_group, Given, operands, script, script_of, Profile}
use Rattle.bz_buildozer.specs.Sessions.{KeepFault, Pair, Keeps, Action, History, Reply, present}
use Rattle.bz_buildozer.specs.Found.{IsNameOf, Opened, Used, key_in, package_number, file_at, with_opened}
use Rattle.bz_buildozer.specs.Journals.{IsOpenedIn}
use Rattle.bz_buildozer.specs.Keeps.{after_keeping}
use Rattle.bz_buildozer.specs.Outcome.{IsScript, IsText}
use Rattle.bz_buildozer.specs.Run.{World}
use Rattle.bz_buildozer.specs.Steps.{RunStep, action_of, all_steps}

-- ---- files that can be gone on with

-- A file goes on with the texts of one of two histories, and holds the present text of either: its journal is replaced first.
abbrev pub IsBetween : Folder → Bytes → History → History → Type 0
IsBetween folder name h after = Holds folder name h.«package» (present h) h.texts
    ⊎ (Holds folder name h.«package» (present h) after.texts ⊎ Holds folder name h.«package» (present after) after.texts)

-- An open file holds its present text and goes on with its history. One that is left alone is between that and the history from which
-- the action led that was not kept.
abbrev pub IsSafe : Folder → Opened → Type 0
IsSafe folder file = ((file.left ≡ false) × Holds folder file.name file.history.«package» (present file.history) file.history.texts)
    ⊎ ((file.left ≡ true) × ((h : History) × (action : Action) × (note : Bytes) × (fault : PairFault)
    × Keeps action note h (Err (Pair fault)) file.history × IsBetween folder file.name h file.history))

-- A step leads a run from these packages to those, and this is the folder meanwhile: each open file is safe, or between its history
-- before the step and the one after it, and was there when the run began; and each name but those of open files, of their journals, and
-- those set aside is as it was then.
pub record IsMeanwhile (began : Folder) (before after : List Used) (now : Folder) : Type 0 where
  pub files : (place : ℕ) (file then : Opened) → file_at place before ≡ Some file → file_at place after ≡ Some then
      → IsSafe now then ⊎ ((file.left ≡ false) × IsBetween now file.name file.history then.history)
  pub there : (place : ℕ) (file : Opened) → file_at place after ≡ Some file → is_some (get began file.name) ≡ true
  pub others : (name : Bytes) → ((place : ℕ) (file : Opened) → file_at place after ≡ Some file → (name ≢ file.name) × (name ≢ journal_name file.name))
      → (IsAside name → ⊥) → get now name ≡ get began name

-- none of these is the package
abbrev pub IsApart : Bytes → List Used → Type 0
IsApart current [] = Unit {0}
IsApart current (used ∷ more) = (used.«package» ≢ current) × IsApart current more

-- all packages differ, and this holds of each open file and its package
abbrev pub AllAre : (Bytes → Opened → Type 0) → List Used → Type 0
AllAre Holding [] = Unit {0}
AllAre Holding (used ∷ more) = IfSome used.file (Holding used.«package») × IsApart used.«package» more × AllAre Holding more

-- each open file has a name that the file of its package may have, and is safe
abbrev pub AllAreSafe : Folder → List Used → Type 0
AllAreSafe folder used = AllAre (λ current file. IsNameOf current file.name × IsSafe folder file) used

-- ---- steps

-- The package of a step is one that was used before, or the last one from now on: with a file as the folder had it when the run began, or
-- with none, where none could be opened. Where memory was refused nothing changes.
abbrev pub Joins : Folder → Bytes → List Used → List Used → Type 0
Joins began current before after = (after ≡ before)
    ⊎ ((package_number current before ≡ None) × ((file : Option Opened) × IfSome file (IsOpenedIn true began current)
    × (after ≡ before ++ record { «package» = current; file = file } ∷ [])))

-- Nothing is done; or in the open file of the step's package, which isn't left alone, its action is done and kept, or not kept, or refused.
abbrev pub MayAct : Bytes → RunStep → List Used → List Used → Type 0
MayAct current step before after = (after ≡ before)
    ⊎ ((place : ℕ) × (file : Opened) × (action : Action) × (answer : Result Reply KeepFault) × (history : History)
    × (package_number current before ≡ Some place) × (file_at place before ≡ Some file) × (file.left ≡ false)
    × (action_of step.target step.request.verb ≡ Some action) × Keeps action step.request.text file.history answer history
    × (after ≡ with_opened place (Some (after_keeping answer history file)) before))

-- a folder at a moment of a run of these steps, which has used these packages: in the first step, or once that is done in the others
abbrev pub IsMomentOfSteps : Folder → List RunStep → List Used → Folder → Type 0
IsMomentOfSteps began [] used now = IsMeanwhile began used used now
IsMomentOfSteps began (step ∷ steps) used now =
    let current : Bytes = key_in used began step.target.«package» in
    (mid : List Used) × (after : List Used) × Joins began current used mid × MayAct current step mid after × (IsMeanwhile began mid after now ⊎ IsMomentOfSteps began steps after now)

-- ---- runs

-- what is requested by operands, or by the lines of a file, as they are read in a profile
abbrev pub RequestsFor : Profile → World → Given → List Requested → Type 0
RequestsFor profile world (operands texts) lines = (requested : Requested) × (operand_group profile texts ≡ Ok requested) × (lines ≡ requested ∷ [])
RequestsFor profile world (script name) lines = (text : Bytes) × IsScript world name (Some text) × IsText text × (script_of profile text ≡ Ok lines)

-- a folder at a moment of a run: it is as it was, or at a moment of the steps that are requested
abbrev pub IsMomentOfRun : Profile → World → Given → Folder → Type 0
IsMomentOfRun profile world given now = (now ≡ world.folder)
    ⊎ ((lines : List Requested) × RequestsFor profile world given lines × IsMomentOfSteps world.folder (all_steps lines) [] now)
