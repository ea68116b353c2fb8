-- What a run leaves after its steps: standard output, lines, files and the status.
use Rattle.std.specs.Prelude.{◌≡◌, ◌≢◌, ◌&&◌, not, Bool, false, ℕ, List, [], ◌∷◌, ◌++◌, bytes_eq, codes, if◌then◌else◌, Option, Some, None}
use Rattle.std.specs.FinMap.{get}
use Rattle.std.specs.List.{flat_map, list_any}
use Rattle.std.specs.Option.{option_map, option_map_or}
use Rattle.bz_buildozer.specs.Words.{Bytes, Folder, IsReplacing, SameBut, new_name, with_file, Options, Requested, first_cut, named_line, Cut}
use Rattle.bz_streams.specs.declared.exit.Cut.TheVariants as c
use Rattle.bz_buildozer.specs.Sessions.{present}
use Rattle.bz_buildozer.specs.Found.{Opened, Used, root_above}
use Rattle.bz_buildozer.specs.Reported.{fixed_line, output_lines, root_note}
use Rattle.bz_buildozer.specs.Run.{World, Progress, nothing_done, RunsSteps}
use Rattle.bz_buildozer.specs.Steps.{all_steps, input_package, names_file, shows_input}

-- the text at the end is another one than was read
abbrev pub differs : Opened → Bool
differs file = not (bytes_eq (present file.history) file.read)

abbrev pub has_changed : Used → Bool
has_changed used = option_map_or differs used.file false

abbrev pub is_input : Used → Bool
is_input used = bytes_eq used.«package» input_package

-- Of standard input the text goes to standard output where it is shown; of a file where it changed and is to go there.
abbrev pub goes_out : Bool → Bool → Bool → Bool → Bool
goes_out of_input shown to_stdout changed = if of_input then shown else to_stdout && changed

abbrev pub opened_out : Bool → Bool → Bool → Option Opened → Bytes
opened_out of_input shown to_stdout None = []
opened_out of_input shown to_stdout (Some file) = if goes_out of_input shown to_stdout (differs file) then present file.history else []

abbrev pub text_out : Bool → Bool → Used → Bytes
text_out shown to_stdout used = opened_out (is_input used) shown to_stdout used.file

-- the texts of the packages, in order of first use
abbrev pub texts_out : Bool → Bool → List Used → Bytes
texts_out shown to_stdout used = flat_map (text_out shown to_stdout) used

-- a file that is written: its name, the bytes that were read of it, and those that it is given
pub record Writing : Type 0 where
  pub name : Bytes
  pub held : Bytes
  pub bytes : Bytes

-- A file is written where it changed, unless its text goes to standard output.
abbrev pub file_writing : Bool → Bool → Option Opened → Option Writing
file_writing of_input to_stdout None = None
file_writing of_input to_stdout (Some file) =
    if not of_input && not to_stdout && differs file then Some (record { name = file.name; held = file.read; bytes = present file.history }) else None

abbrev pub writing_of : Bool → Used → Option Writing
writing_of to_stdout used = file_writing (is_input used) to_stdout used.file

-- A file is given its bytes, where it holds what was read of it right before; what is set aside for it may differ.
abbrev pub WritesFile : Option Writing → Folder → Folder → Type 0
WritesFile None before after = after ≡ before
WritesFile (Some file) before after =
    (get before file.name ≡ Some file.held) × SameBut (λ other. other ≡ new_name file.name) (with_file before file.name file.bytes) after

-- the name of a file that was written with its journal
abbrev pub name_kept : Option Opened → Option Bytes
name_kept None = None
name_kept (Some file) = if file.written then Some file.name else None

-- the name of the file that a run writes of a package: with its journal after each step, or at the end
abbrev pub name_fixed : Bool → Bool → Used → Option Bytes
name_fixed journals to_stdout used = if journals then name_kept used.file else option_map (λ (file : Writing). file.name) (writing_of to_stdout used)

abbrev pub fixed_lines : Bool → Option Bytes → List Bytes
fixed_lines quiet None = []
fixed_lines quiet (Some name) = if quiet then [] else fixed_line name ∷ []

-- A file could not be written: it is as it was or has its new bytes, as it was where it holds something else than was read of it.
abbrev pub LeavesUnwritten : Writing → Folder → Folder → Type 0
LeavesUnwritten file before after = IsReplacing file.name file.bytes before after
    × (get before file.name ≢ Some file.held → SameBut (λ other. other ≡ new_name file.name) before after)

-- A file that changed is tried: it is written and reported, or could not be written, which is reported; or memory is refused. With its
-- journal it was written before.
abbrev pub TriesFile : Cut → Options → Used → Folder → List Bytes → Folder → Type 0
TriesFile c.Whole options used before lines after =
    (lines ≡ fixed_lines options.quiet (name_fixed options.journal options.to_stdout used))
    × WritesFile (if options.journal then None else writing_of options.to_stdout used) before after
TriesFile c.Files options used before lines after = (options.journal ≡ false) × ((file : Writing) × (writing_of options.to_stdout used ≡ Some file)
    × (lines ≡ named_line file.name (codes "cannot write") ∷ []) × LeavesUnwritten file before after)
TriesFile c.Memory options used before lines after =
    (options.journal ≡ false) × ((file : Opened) × (used.file ≡ Some file) × (lines ≡ named_line file.name (codes "Memory") ∷ []) × (after ≡ before))
TriesFile why options used before lines after = ⊥

-- The files of packages are tried, each whatever became of those before it.
abbrev pub TriesFiles : Cut → Options → List Used → Folder → List Bytes → Folder → Type 0
TriesFiles why options [] before lines after = (why ≡ c.Whole) × (lines ≡ []) × (after ≡ before)
TriesFiles why options (used ∷ more) before lines after = (one : Cut) × (later : Cut) × (first : List Bytes) × (rest : List Bytes) × (mid : Folder)
    × TriesFile one options used before first mid × TriesFiles later options more mid rest after × (lines ≡ first ++ rest) × (why ≡ first_cut one later)

-- 2 where something or a step failed, else 0 where a text at the end is another one than was read, else 3
abbrev pub status_of : Cut → Progress → ℕ
status_of c.Whole state = if state.failed then 2 else (if list_any has_changed state.used then 0 else 3)
status_of why state = 2

-- what a run leaves: the bytes on standard output, the lines on standard error, its status and the folder
pub record Left : Type 0 where
  pub output : Bytes
  pub lines : List Bytes
  pub status : ℕ
  pub folder : Folder

-- what a run leaves, why it is cut, and why standard output wasn't given all
pub record Ended : Type 0 where
  pub left : Left
  pub cut : Cut
  pub printed : Cut

abbrev pub ended_whole : Left → Ended
ended_whole left = record { left = left; cut = c.Whole; printed = c.Whole }

-- The steps of lines are run, below the note on the root; then standard output is given what they printed and the texts after it, and files are
-- tried, whatever failed before. With journals files were written after each step, which is reported then.
pub record Performs (options : Options) (requested : List Requested) (world : World) (ended : Ended) : Type 0 where
  pub stopped : Cut
  pub written : Cut
  pub reported : List Bytes
  pub told : List Bytes
  pub folder : Folder
  pub state : Progress
  pub runs : RunsSteps stopped options.journal world options.keep_going (all_steps requested) nothing_done reported folder state
  pub output : ended.left.output ≡ state.printed ++ texts_out (shows_input (all_steps requested)) options.to_stdout state.used
  pub tries : TriesFiles written options state.used folder told ended.left.folder
  pub lines : ended.left.lines ≡ root_note (names_file requested) (root_above world.folder) ++ reported ++ output_lines ended.printed ++ told
  pub cut : ended.cut ≡ first_cut stopped (first_cut written ended.printed)
  pub status : ended.left.status ≡ status_of ended.cut state
