-- What a call does to the ports of a run. Each relation takes the ghost members of a port's bound, which a clause writes `R.Source`,
-- `W.Sink`, `E.Sink` or `F.Files`, and the port before and after.
use Rattle.std.specs.Prelude.{◌≡◌, ◌≢◌, ◌⊎◌, ◌++◌, ℕ, List, Option, Some, None, Result, Bool, true, false}
use Rattle.std.specs.Option.{option_map}
use Rattle.std.specs.Io.KnownBytes.{Appends}
use Rattle.bz_buildozer.specs.Words.{Bytes, Folder, Elapses, Ghosts as FilesOf, AppendsSome, Rises, Reports, Counts, Cut, Exit}
use Rattle.bz_files.specs.Orders.{Act}
use Rattle.bz_streams.specs.declared.exit.Cut.TheVariants as c
use Rattle.bz_streams.specs.declared.sink.Sink.{Ghosts as SinkOf}
use Rattle.bz_streams.specs.declared.source.Source.{Ghosts as SourceOf}
use Rattle.bz_buildozer.specs.Sessions.{KeepFault, Action, Reply}
use Rattle.bz_buildozer.specs.Journals.{Adds, IsOpenedIn}
use Rattle.bz_buildozer.specs.Keeps.{KeepsAt, is_left_at}
use Rattle.bz_buildozer.specs.Found.{Used, file_at, key_in, package_number}
use Rattle.bz_buildozer.specs.Ending.{Ended}
use Rattle.bz_buildozer.specs.Moments.{AllAreSafe, IsMeanwhile, IsMomentOfSteps}
use Rattle.bz_buildozer.specs.Run.{World, Progress}
use Rattle.bz_buildozer.specs.private.Shown.{progress_in}
use Rattle.bz_buildozer.specs.Steps.{RunStep, action_of, input_package}
use Rattle.bz_buildozer.specs.Unread.{RunActs, ActsGrow, ActsAreAmong}
use Rattle.bz_buildozer.specs.declared.run.Run.{Run}
pub use Rattle.bz_command_line.specs.Reported.{ReportsLine}

-- ---- why the steps of a run are cut, and what is left of standard input

-- Steps are cut where a count of faults rose; where none is, none has risen. (Standard input, then files, each before and after.)
abbrev pub AreCutBy : Cut → ℕ → ℕ → ℕ → ℕ → Type 0
AreCutBy c.Whole read_faults read_faults' files files' = (read_faults' ≡ read_faults) × (files' ≡ files)
AreCutBy c.Memory read_faults read_faults' files files' = Unit {0}
AreCutBy c.Read read_faults read_faults' files files' = Rises read_faults read_faults'
AreCutBy c.Write read_faults read_faults' files files' = ⊥
AreCutBy c.Files read_faults read_faults' files files' = Rises files files'

-- What is done on files is cut for memory, or where a count of faults rose; where it is not, none has risen.
abbrev pub CutsFiles : Cut → ℕ → ℕ → Type 0
CutsFiles cut faults faults' = ((cut ≡ c.Whole) × (faults' ≡ faults)) ⊎ (cut ≡ c.Memory) ⊎ ((cut ≡ c.Files) × Rises faults faults')

-- Until package `-` is used, all bytes of standard input are left.
abbrev pub IsLeft : Option Bytes → List Used → Option Bytes → Type 0
IsLeft known used remaining = package_number input_package used ≡ None → remaining ≡ known

-- A run is cut where a count of faults rose; where none is, none has risen. (Standard input, standard output and files, each before
-- and after.)
abbrev pub IsEndedBy : Cut → ℕ → ℕ → ℕ → ℕ → ℕ → ℕ → Type 0
IsEndedBy c.Whole read_faults read_faults' writes writes' files files' = (read_faults' ≡ read_faults) × (writes' ≡ writes) × (files' ≡ files)
IsEndedBy c.Memory read_faults read_faults' writes writes' files files' = Unit {0}
IsEndedBy c.Read read_faults read_faults' writes writes' files files' = Rises read_faults read_faults'
IsEndedBy c.Write read_faults read_faults' writes writes' files files' = Rises writes writes'
IsEndedBy c.Files read_faults read_faults' writes writes' files files' = Rises files files'

-- ---- standard error

-- Lines were printed one after the other, each whole unless its writing failed.
abbrev pub ReportsLines : {E : Type 0} → SinkOf E → E → E → List Bytes → Type 0
ReportsLines sink old new lines = Reports (sink.faults old) (sink.faults new) (sink.contents old) (sink.contents new) lines

-- ---- standard output

-- These bytes were printed, all of them.
abbrev pub PrintsAll : {W : Type 0} → SinkOf W → W → W → Bytes → Type 0
PrintsAll sink old new bytes = Appends (sink.contents old) (sink.contents new) bytes

-- A beginning of these bytes was printed.
abbrev pub PrintsSome : {W : Type 0} → SinkOf W → W → W → Bytes → Type 0
PrintsSome sink old new bytes = AppendsSome (sink.contents old) (sink.contents new) bytes

-- The same of bytes that standard output may not be given, and why it isn't given all.
abbrev pub PrintsUntil : {W : Type 0} → SinkOf W → Cut → W → W → Bytes → Type 0
PrintsUntil sink c.Whole old new bytes = PrintsAll sink old new bytes
PrintsUntil sink c.Memory old new bytes = new ≡ old
PrintsUntil sink c.Write old new bytes = PrintsSome sink old new bytes × Rises (sink.faults old) (sink.faults new)
PrintsUntil sink why old new bytes = ⊥

-- ---- what can be read

-- the acts from these files to those
abbrev pub acts_over : {F : Type 0} → FilesOf F → F → F → RunActs
acts_over files old new = record { began = files.acts old; ended = files.acts new }

-- the folder as it is, and these bytes of standard input, in a run of these acts
abbrev pub world_with : {F : Type 0} → FilesOf F → F → Option Bytes → RunActs → World
world_with files held known acts = record { folder = files.folder held; known = known; acts = acts }

-- the folder as it is, and what is left of standard input
abbrev pub world_of : {R F : Type 0} → SourceOf R → FilesOf F → R → F → RunActs → World
world_of source files input held acts = world_with files held (source.remaining input) acts

-- Each folder since the beginning of the call, but those that had occurred by then, has P.
abbrev pub PassesBy : {F : Type 0} → FilesOf F → (Folder → Type 0) → F → F → Type 0
PassesBy files P old new = Elapses (files.moment old) (files.moment new) (files.since old) (files.since new) P

-- Nothing is read of standard input, and it has not failed.
abbrev pub IsStill : {R : Type 0} → SourceOf R → R → R → Type 0
IsStill source old new = (source.remaining new ≡ source.remaining old) × (source.faults new ≡ source.faults old)

-- The same, and it cuts no run. (Why a run is cut.)
abbrev pub ReadsNothing : {R : Type 0} → SourceOf R → Cut → R → R → Type 0
ReadsNothing source cut old new = (source.remaining new ≡ source.remaining old) × (source.faults new ≡ source.faults old) × (cut ≢ c.Read)

-- ---- faults

-- Steps are cut where standard input or files counted a fault; where they are not, neither did.
abbrev pub AreCutOver : {R F : Type 0} → SourceOf R → FilesOf F → Cut → R → R → F → F → Type 0
AreCutOver source files cut input input' held held' = AreCutBy cut (source.faults input) (source.faults input') (files.faults held) (files.faults held')

-- A run is cut where standard input, standard output or files counted a fault; where it is not, none did.
abbrev pub IsEndedOver : {R W F : Type 0} → SourceOf R → SinkOf W → FilesOf F → Cut → R → R → W → W → F → F → Type 0
IsEndedOver source sink files cut input input' out out' held held' =
    IsEndedBy cut (source.faults input) (source.faults input') (sink.faults out) (sink.faults out') (files.faults held) (files.faults held')

-- Files are worked on: a fault of theirs cuts what is done, and they stay as honest as they were. (Why it is cut.)
pub record WorksOn {F : Type 0} (files : FilesOf F) (why : Cut) (old new : F) : Type 0 where
  pub cut : CutsFiles why (files.faults old) (files.faults new)
  pub counts : Counts (files.faults old) (files.faults new)
  pub honest : files.honest new ≡ files.honest old

-- ---- steps

-- What a path means is opened where it is used first, whatever comes. (The folder, and the number of what it means where its file is open.)
abbrev pub UsesSome : Folder → Bytes → Option ℕ → List Used → List Used → Type 0
UsesSome folder path number before after =
    let key : Bytes = key_in before folder path in
    ((place : ℕ) × (package_number key before ≡ Some place) × (after ≡ before) × (number ≡ option_map (λ _. place) (file_at place before)))
    ⊎ Adds key (IsOpenedIn true folder key) number before after

-- An action with a note is done in the open file of the package with this number, and kept there or not.
abbrev pub KeepsSome : {F : Type 0} → FilesOf F → ℕ → Action → Bytes → List Used → List Used → F → F → Type 0
KeepsSome files place action note before after old new = (answer : Result Reply KeepFault) × KeepsAt true files place action note before answer after old new

-- What a step does in the open file of this number, if there is one, whatever comes: nothing; or its action is done there, and kept or not.
abbrev pub KeepsStep : {F : Type 0} → FilesOf F → RunStep → Option ℕ → List Used → List Used → F → F → Type 0
KeepsStep files step number before after old new = ((after ≡ before) × (new ≡ old))
    ⊎ ((place : ℕ) × (number ≡ Some place) × (is_left_at place before ≡ false) × ((action : Action)
    × (action_of step.target step.request.verb ≡ Some action) × KeepsSome files place action step.request.text before after old new))

-- Where a run is: how far it has come, what is left of standard input, the files, and standard error. (Of each, the count of faults.)
pub record RunSpot : Type 1 where
  pub state : Progress
  pub left : Option Bytes
  pub read_faults : ℕ
  pub sound : Bool
  pub folder : Folder
  pub moment : ℕ
  pub since : ℕ → Folder → Type 0
  pub honest : Bool
  pub acts : Option (List Act)
  pub file_faults : ℕ
  pub reported : Option Bytes
  pub faults : ℕ

abbrev pub spot : {R F E : Type 0} → SourceOf R → FilesOf F → SinkOf E → Run → R → F → E → RunSpot
spot source files errors run input held err = record {
  state = progress_in run;
  left = source.remaining input;
  read_faults = source.faults input;
  sound = source.sound input;
  folder = files.folder held;
  moment = files.moment held;
  since = files.since held;
  honest = files.honest held;
  acts = files.acts held;
  file_faults = files.faults held;
  reported = errors.contents err;
  faults = errors.faults err;
}

-- This is done from one spot to another, and in the folder; its lines are printed. (Of standard input all is left until package `-` is
-- used.)
abbrev pub DoesBetween : (World → Progress → List Bytes → Folder → Progress → Type 0) → RunSpot → RunSpot → Type 0
DoesBetween Does old new = (known : Option Bytes) (acts : RunActs) → IsLeft known old.state.used old.left → ActsAreAmong old.acts new.acts acts
    → (lines : List Bytes) × Does (record { folder = old.folder; known = known; acts = acts }) old.state lines new.folder new.state
    × IsLeft known new.state.used new.left
    × Reports old.faults new.faults old.reported new.reported lines

-- Nothing is read of standard input, from one spot to another. (Why that is cut.)
abbrev pub ReadsNoInput : Cut → RunSpot → RunSpot → Type 0
ReadsNoInput why old new = (new.left ≡ old.left) × (new.read_faults ≡ old.read_faults) × (why ≢ c.Read)

-- From one spot to another of a run that began with any folder: where each open file was safe each one is again, each folder is at a
-- moment of these steps, and one that is at a moment of further steps after them is at one of all.
abbrev pub PassesSafely : List RunStep → RunSpot → RunSpot → Type 0
PassesSafely steps old new = (began : Folder) → AllAreSafe old.folder old.state.used → IsMeanwhile began old.state.used old.state.used old.folder
    → AllAreSafe new.folder new.state.used × IsMeanwhile began new.state.used new.state.used new.folder
    × Elapses old.moment new.moment old.since new.since (IsMomentOfSteps began steps old.state.used)
    × ((rest : List RunStep) (now : Folder) → IsMomentOfSteps began rest new.state.used now
    → IsMomentOfSteps began (steps ++ rest) old.state.used now)

-- What a run is to have: honest files, or no journals and this.
abbrev pub MayRun : Bool → Bool → Type 0 → Type 0
MayRun journals honest Premise = (honest ≡ true) ⊎ ((journals ≡ false) × Premise)

-- What a run does from one spot to another by these steps, without journals or with them, where each open file is safe; and why it is cut.
-- Where files are not honest the premise is that only standard input is used. With journals standard input isn't read.
pub record Proceeds (journals : Bool) (Premise : Type 0) (steps : List RunStep) (Does : Cut → World → Progress → List Bytes → Folder → Progress → Type 0)
    (why : Cut) (old new : RunSpot) : Type 0 where
  pub does : MayRun journals old.honest Premise → (journals ≡ true → AllAreSafe old.folder old.state.used) → DoesBetween (Does why) old new
  pub safely : journals ≡ true → old.honest ≡ true → PassesSafely steps old new
  pub unread : journals ≡ true → ReadsNoInput why old new
  pub works : old.sound ≡ true → why ≢ c.Read
  pub sound : new.sound ≡ old.sound
  pub cut : AreCutBy why old.read_faults new.read_faults old.file_faults new.file_faults
  pub read_faults : Counts old.read_faults new.read_faults
  pub counts : Counts old.file_faults new.file_faults
  pub grows : ActsGrow old.acts new.acts
  pub honest : new.honest ≡ old.honest

-- ---- what a run leaves

-- What a run leaves is in the writers and in the folder. (How it ended.)
pub record LeavesEnded {W E F : Type 0} (sink : SinkOf W) (errors : SinkOf E) (files : FilesOf F) (ended : Ended) (exit : Exit) (out out' : W) (err err' : E) (held' : F) : Type 0 where
  pub exit_is : exit ≡ record { status = ended.left.status; cut = ended.cut }
  pub folder : files.folder held' ≡ ended.left.folder
  pub output : PrintsUntil sink ended.printed out out' ended.left.output
  pub lines : ReportsLines errors err err' ended.left.lines

-- Some such outcome is what is left.
abbrev pub EndsIn : {W E F : Type 0} → SinkOf W → SinkOf E → FilesOf F → (Ended → Type 0) → Exit → W → W → E → E → F → Type 0
EndsIn sink errors files IsOutcome exit out out' err err' held' =
    (ended : Ended) × IsOutcome ended × LeavesEnded sink errors files ended exit out out' err err' held'
