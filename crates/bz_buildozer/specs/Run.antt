-- What steps do, one after the other. Each relation takes why it is cut; where nothing fails that is `Whole`. (The flag: journals are kept.)
use Rattle.std.specs.Prelude.{◌≡◌, ◌≢◌, ◌⊎◌, ◌&&◌, ◌||◌, not, Bool, true, false, ℕ, List, [], ◌∷◌, ◌++◌, bytes_eq, codes, if◌then◌else◌, length, is_err, IsSome, Option, Some, None, Ok, Err}
use Rattle.std.specs.FinMap.{get}
use Rattle.std.specs.Option.{option_map}
use Rattle.bz_buildozer.specs.Words.{Reads, lines_of, Node, view_of, change_notes, refusal_hint, Bytes, Folder, journal_name, Survives, PairFault, Refusal, first_cut, IsInput, stdin, named_line, Cut}
use Rattle.bz_value.specs.declared.refusal.Refusal.TheVariants.{Memory, NoteTooLong}
use Rattle.bz_buildozer.specs.Sessions.{Pair, Keeps, Action, Do, present, Reply, Changed, Same, Printed, Moved, History, Acts, Answer, Leads, listing}
use Rattle.bz_resume.specs.declared.fault.ResumeFault.TheVariants as r
use Rattle.bz_resume.specs.declared.pair_fault.PairFault.TheVariants as f
use Rattle.bz_streams.specs.declared.exit.Cut.TheVariants as c
use Rattle.bz_buildozer.specs.Found.{PackagesFound, Settled, as_package, as_file, as_unedited, settled, folder_of, first_name, found_in, found_of, found_second, second_name, Opened, Used, key_in, package_number, package_of, file_at, with_opened}
use Rattle.bz_buildozer.specs.Journals.{OpensAs, OpensBeside, TakesBeside, fault_lines, journal_beside, of_resuming}
use Rattle.bz_buildozer.specs.Keeps.{FolderAfter, file_after, left_out, after_keeping}
use Rattle.bz_buildozer.specs.Reported.{refusal_line, unedited_lines, unkept_line, unread_line}
use Rattle.bz_buildozer.specs.Steps.{RunStep, action_of, input_package}
use Rattle.bz_buildozer.specs.Unread.{RunActs, IsUnreadInRun}

-- what can be read: the files of a folder, and the bytes of standard input where they are known; and the acts of the run
pub record World : Type 0 where
  pub folder : Folder
  pub known : Option Bytes
  pub acts : RunActs

-- how far a run has come: the packages used, what was printed, and whether a step has failed
pub record Progress : Type 0 where
  pub used : List Used
  pub printed : Bytes
  pub failed : Bool

abbrev pub nothing_done : Progress
nothing_done = record { used = []; printed = []; failed = false }

-- a file that can't be read
abbrev pub unreadable : Bytes → List Bytes
unreadable name = named_line name (codes "cannot open") ∷ []

-- a file for which memory is refused
abbrev pub wanting : Bytes → List Bytes
wanting name = named_line name (codes "Memory") ∷ []

-- Memory is refused before the file of a package has its name: the line is of `BUILD`, or of standard input.
abbrev pub wanting_name : Bytes → List Bytes
wanting_name current = wanting (if bytes_eq current input_package then stdin else second_name current)

-- ---- the package of a step

-- Where journals are kept the file of a package is in the folder, without them that of each package but `-`.
abbrev pub IsInFolder : Bool → Bytes → Type 0
IsInFolder journals current = (journals ≡ true) ⊎ (current ≢ input_package)

-- Without journals package `-` is read from standard input; what each other path means is read from its file in the folder.
abbrev pub Finds : Bool → World → Bytes → Option PackagesFound → Type 0
Finds journals world path found =
    ((journals ≡ false) × (path ≡ input_package) × ((text : Bytes) × IsInput world.known text × (found ≡ Some (stdin, text))))
    ⊎ (IsInFolder journals path × (found ≡ found_of world.folder (settled world.folder path)))

-- Memory is refused for a file or for its journal, which the line names. That of a journal that is there may be refused as it is resumed.
abbrev pub WantsMemory : Bool → Folder → Bytes → List Bytes → Type 0
WantsMemory journals folder name lines = (lines ≡ wanting name)
    ⊎ ((journals ≡ true) × (lines ≡ wanting (journal_name name)))
    ⊎ (IsSome (journal_beside journals folder name) × (lines ≡ fault_lines (journal_name name) (of_resuming r.Memory)))

-- A file that was found is opened, or its journal can't be read. Where memory is refused nothing is open, and a line says so.
abbrev pub TakesUntil : Cut → Bool → RunActs → Folder → Bytes → Bytes → Bytes → Option Opened → List Bytes → Type 0
TakesUntil c.Whole journals acts folder current name text file lines = TakesBeside (journal_beside journals folder name) current name text file lines
TakesUntil c.Files journals acts folder current name text file lines = (journals ≡ true) × (file ≡ None) × (lines ≡ unreadable (journal_name name)) × IsUnreadInRun acts (journal_name name)
TakesUntil c.Memory journals acts folder current name text file lines = (file ≡ None) × WantsMemory journals folder name lines
TakesUntil why journals acts folder current name text file lines = ⊥

-- That a file can't be read is reported of one of which a read failed.
abbrev pub IsUnreadFor : Cut → RunActs → Bytes → Type 0
IsUnreadFor c.Files acts name = IsUnreadInRun acts name
IsUnreadFor why acts name = Unit {0}

-- The file of this name can't be read, or memory is refused for it; or it is there, and is not opened for its journal.
abbrev pub FindsUntil : Cut → Bool → RunActs → Folder → Bytes → Bytes → Option Opened → List Bytes → Type 0
FindsUntil why journals acts folder current name file lines = ((file ≡ None) × (lines ≡ unread_line name why ∷ []) × IsUnreadFor why acts name)
    ⊎ ((text : Bytes) × (get folder name ≡ Some text) × TakesUntil why journals acts folder current name text file lines)

-- `BUILD` is opened, or it or its journal can't be read, or memory is refused.
abbrev pub SecondUntil : Cut → Bool → RunActs → Folder → Bytes → Option Opened → List Bytes → Type 0
SecondUntil c.Whole journals acts folder current file lines = OpensBeside journals folder current (found_second folder current) file lines
SecondUntil c.Files journals acts folder current file lines = FindsUntil c.Files journals acts folder current (second_name current) file lines
SecondUntil c.Memory journals acts folder current file lines =
    ((file ≡ None) × (lines ≡ wanting_name current)) ⊎ FindsUntil c.Memory journals acts folder current (second_name current) file lines
SecondUntil why journals acts folder current file lines = ⊥

-- The file that is found for a package is opened, or can't be read, or memory is refused. Where `BUILD.bazel` can't be read, that is
-- reported, and `BUILD` is tried.
abbrev pub OpensUntil : Cut → Bool → RunActs → Folder → Bytes → Option Opened → List Bytes → Type 0
OpensUntil c.Whole journals acts folder current file lines = OpensBeside journals folder current (found_in folder current) file lines
OpensUntil c.Files journals acts folder current file lines =
    ((why : Cut) × (more : List Bytes) × (lines ≡ unreadable (first_name current) ++ more) × IsUnreadInRun acts (first_name current) × SecondUntil why journals acts folder current file more)
    ⊎ (((get folder (first_name current) ≡ None) × SecondUntil c.Files journals acts folder current file lines)
    ⊎ ((text : Bytes) × (get folder (first_name current) ≡ Some text) × TakesUntil c.Files journals acts folder current (first_name current) text file lines))
OpensUntil c.Memory journals acts folder current file lines = ((file ≡ None) × (lines ≡ wanting_name current))
    ⊎ (((get folder (first_name current) ≡ None) × SecondUntil c.Memory journals acts folder current file lines)
    ⊎ FindsUntil c.Memory journals acts folder current (first_name current) file lines)
OpensUntil why journals acts folder current file lines = ⊥

-- The file of this name is opened, or it or its journal can't be read, or memory is refused. Its labels are of its folder.
abbrev pub FileUntil : Cut → Bool → RunActs → Folder → Bytes → Option Opened → List Bytes → Type 0
FileUntil c.Whole journals acts folder name file lines =
    (text : Bytes) × (get folder name ≡ Some text) × TakesBeside (journal_beside journals folder name) (folder_of name) name text file lines
FileUntil c.Files journals acts folder name file lines = FindsUntil c.Files journals acts folder (folder_of name) name file lines
FileUntil c.Memory journals acts folder name file lines = FindsUntil c.Memory journals acts folder (folder_of name) name file lines
FileUntil why journals acts folder name file lines = ⊥

-- What a path means is opened, or can't be read, or memory is refused; or it is a file that isn't edited, which is reported.
abbrev pub MeansUntil : Cut → Bool → RunActs → Folder → Bytes → Settled → Option Opened → List Bytes → Type 0
MeansUntil why journals acts folder path (as_package current) file lines = OpensUntil why journals acts folder current file lines
MeansUntil why journals acts folder path (as_file name) file lines = FileUntil why journals acts folder name file lines
MeansUntil why journals acts folder path (as_unedited reason) file lines = (why ≡ c.Whole) × (file ≡ None) × (lines ≡ unedited_lines path reason)

-- What a path means is read and opened where it is used first, with the journal of its file where journals are kept; it gets the next number.
abbrev pub UsesWhole : Bool → World → Bytes → List Used → ℕ → List Bytes → List Used → Type 0
UsesWhole journals world path before place lines after =
    let key : Bytes = key_in before world.folder path in
    ((package_number key before ≡ Some place) × (lines ≡ []) × (after ≡ before))
    ⊎ ((package_number key before ≡ None) × (place ≡ length before)
    × ((found : Option PackagesFound) × (file : Option Opened) × Finds journals world path found
    × OpensAs journals world.folder path (settled world.folder path) found file lines × (after ≡ before ++ record { «package» = key; file = file } ∷ [])))

-- Memory is refused for what a path means, which has no file then: for its name, for standard input, or for its file in the folder.
abbrev pub UsesNone : Bool → World → Bytes → List Bytes → Type 0
UsesNone journals world path lines = ((journals ≡ false) × (path ≡ input_package) × (lines ≡ wanting stdin))
    ⊎ (IsInFolder journals path × MeansUntil c.Memory journals world.acts world.folder path (settled world.folder path) None lines)

-- What the path of a step means is used, and this is its number where its file is open. What can't be read has none from now on. (Memory may
-- be refused before that is known.)
abbrev pub Uses : Cut → Bool → World → Bytes → List Used → Option ℕ → List Bytes → List Used → Type 0
Uses c.Whole journals world path before number lines after =
    (place : ℕ) × UsesWhole journals world path before place lines after × (number ≡ option_map (λ _. place) (file_at place after))
Uses c.Files journals world path before number lines after =
    let key : Bytes = key_in before world.folder path in (package_number key before ≡ None) × IsInFolder journals path
    × ((file : Option Opened) × MeansUntil c.Files journals world.acts world.folder path (settled world.folder path) file lines
    × (after ≡ before ++ record { «package» = key; file = file } ∷ []) × (number ≡ option_map (λ _. length before) file))
Uses c.Read journals world path before number lines after = (journals ≡ false) × (path ≡ input_package) × (package_number path before ≡ None)
    × (number ≡ None) × (lines ≡ unreadable stdin) × (after ≡ before ++ record { «package» = path; file = None } ∷ [])
Uses c.Memory journals world path before number lines after =
    let key : Bytes = key_in before world.folder path in (package_number path before ≡ None) × (number ≡ None)
    × (((after ≡ before) × (lines ≡ wanting_name path))
    ⊎ ((package_number key before ≡ None) × (after ≡ before ++ record { «package» = key; file = None } ∷ []) × UsesNone journals world path lines))
Uses c.Write journals world path before number lines after = ⊥

-- ---- one step

-- what a reply prints
abbrev pub printed_in : Reply → Bytes
printed_in (Printed text) = text
printed_in Changed = []
printed_in Same = []
printed_in Moved = []

abbrev pub printed_by : Answer → Bytes
printed_by (Ok reply) = printed_in reply
printed_by (Err refusal) = []

-- what is reported of an answer: a refusal, by its file and its command, and what helps; else what is noted
abbrev pub reported_of : Bool → Bytes → Bytes → Answer → List Bytes → List Bytes
reported_of journals name command (Ok reply) hint = hint
reported_of journals name command (Err refusal) hint = refusal_line journals name command refusal ∷ hint

-- the state after an answer of the open file with this number
abbrev pub state_after : Bool → ℕ → Opened → Answer → History → Progress → Progress
state_after journals place file answer history state = record {
  used = with_opened place (Some (file_after journals answer history file)) state.used;
  printed = state.printed ++ printed_by answer;
  failed = state.failed || is_err answer;
}

-- What is answered in an open file and left of its history: what the action leads to, with the command's text as its note; where there is
-- none, the texts are listed.
abbrev pub LeadsBy : Option Action → Bytes → History → Answer → History → Type 0
LeadsBy None note h answer after = (answer ≡ Ok (Printed (listing h))) × (after ≡ h)
LeadsBy (Some action) note h answer after = Leads action note h answer after

-- what is noted of a command that made another text of the file of this name
abbrev pub reply_notes : Option Action → Reply → Bytes → List Bytes
reply_notes (Some (Do operation target)) Changed name = change_notes name operation
reply_notes _ _ name = []

-- What is noted; or what helps below the line of a refusal of a command, by the tree of the text: not where the note is too long, which is
-- refused before all else. (The file's name, and its history after the answer.)
abbrev pub AreHints : Answer → Option Action → Bytes → History → List Bytes → Type 0
AreHints (Ok reply) action name h hint = hint ≡ reply_notes action reply name
AreHints (Err refusal) (Some (Do operation target)) name h hint = ((refusal ≡ NoteTooLong) × (hint ≡ []))
    ⊎ ((refusal ≢ NoteTooLong) × ((n : Node) × Reads (present h) n
    × (hint ≡ refusal_hint name refusal operation target.which (package_of target.«package» name) (lines_of n) (view_of n))))
AreHints (Err refusal) _ name h hint = hint ≡ []

-- In a package without an open file a step does nothing and fails; with one its command is done there, and kept where journals are.
abbrev pub AnswersIn : Bool → RunStep → ℕ → Option Opened → Folder → Progress → List Bytes → Folder → Progress → Type 0
AnswersIn journals step place None folder state lines folder' after = (lines ≡ []) × (folder' ≡ folder) × (after ≡ record state { failed = true })
AnswersIn journals step place (Some file) folder state lines folder' after =
    (answer : Answer) × (history : History) × LeadsBy (action_of step.target step.request.verb) step.request.text file.history answer history
    × FolderAfter journals answer file history folder folder'
    × ((hint : List Bytes) × AreHints answer (action_of step.target step.request.verb) file.name history hint × (lines ≡ reported_of journals file.name step.request.text answer hint))
    × (after ≡ state_after journals place file answer history state)

-- What is reported of a command to which memory is refused: that, where it was refused to list the texts, to the action, or to what it
-- answers; or the refusal to which the action leads, where it was refused to what helps below.
abbrev pub RefusesBy : Option Action → Bytes → History → Refusal → Type 0
RefusesBy None note h refusal = refusal ≡ Memory
RefusesBy (Some action) note h refusal =
    Acts action note h (Err refusal) h ⊎ ((refusal ≡ Memory) × ((text : Bytes) × Acts action note h (Ok (Printed text)) h))

-- Memory is refused to a step in the open file of this number: it fails, the line of its command is reported, and nothing else changes,
-- neither a history nor the folder.
pub record FailsAt (journals : Bool) (step : RunStep) (place : ℕ) (folder : Folder) (state : Progress) (lines : List Bytes) (folder' : Folder) (after : Progress) : Type 0 where
  pub file : Opened
  pub refusal : Refusal
  pub there : left_out journals (file_at place state.used) ≡ Some file
  pub refused : RefusesBy (action_of step.target step.request.verb) step.request.text file.history refusal
  pub reported : lines ≡ refusal_line journals file.name step.request.text refusal ∷ []
  pub still : folder' ≡ folder
  pub state_is : after ≡ record state { failed = true }

-- which fault of a pair cuts a step so
abbrev pub CutsPair : Cut → PairFault → Type 0
CutsPair c.Memory fault = fault ≡ f.Memory
CutsPair c.Files fault = (fault ≡ f.Write) ⊎ (fault ≡ f.Open)
CutsPair why fault = ⊥

-- A step's action is done in the open file of this number, which isn't left alone, and its journal and it could not both be written: that is
-- reported, the step fails, and the file is left alone from then on. It goes on with the texts of before or after, and holds the present
-- text of either. (Why that cuts it.)
pub record LeavesUnkept (why : Cut) (step : RunStep) (place : ℕ) (folder : Folder) (state : Progress) (lines : List Bytes) (folder' : Folder) (after : Progress) : Type 0 where
  pub file : Opened
  pub action : Action
  pub history : History
  pub fault : PairFault
  pub there : file_at place state.used ≡ Some file
  pub stays : file.left ≡ false
  pub requested : action_of step.target step.request.verb ≡ Some action
  pub keeps : Keeps action step.request.text file.history (Err (Pair fault)) history
  pub failed : CutsPair why fault
  pub reported : lines ≡ unkept_line file.name fault ∷ []
  pub survives : Survives file.name file.history history folder folder'
  pub untouched : fault ≢ f.Write → folder' ≡ folder
  pub state_is : after ≡ record state { used = with_opened place (Some (after_keeping (Err (Pair fault)) history file)) state.used; failed = true }

-- What a step does in the open file of this number, and in the folder; without one it does nothing and fails. A file that is left alone is as
-- none. Memory may be refused to the step, which then changes nothing, or with journals, once its action is done, to keeping that.
abbrev pub Answers : Cut → Bool → RunStep → Option ℕ → Folder → Progress → List Bytes → Folder → Progress → Type 0
Answers c.Whole journals step None folder state lines folder' after = (lines ≡ []) × (folder' ≡ folder) × (after ≡ record state { failed = true })
Answers c.Whole journals step (Some place) folder state lines folder' after =
    AnswersIn journals step place (left_out journals (file_at place state.used)) folder state lines folder' after
Answers c.Memory journals step (Some place) folder state lines folder' after =
    FailsAt journals step place folder state lines folder' after ⊎ ((journals ≡ true) × LeavesUnkept c.Memory step place folder state lines folder' after)
Answers c.Files journals step (Some place) folder state lines folder' after = (journals ≡ true) × LeavesUnkept c.Files step place folder state lines folder' after
Answers why journals step number folder state lines folder' after = ⊥

-- Its package is opened, if it was not used before; then its command is done there. (The folder after it.)
pub record Does (why : Cut) (journals : Bool) (world : World) (step : RunStep) (before : Progress) (lines : List Bytes) (folder : Folder) (after : Progress) : Type 0 where
  pub opened : Cut
  pub acted : Cut
  pub number : Option ℕ
  pub used : List Used
  pub opening : List Bytes
  pub answer : List Bytes
  pub uses : Uses opened journals world step.target.«package» before.used number opening used
  pub answers : Answers acted journals step number world.folder (record before { used = used }) answer folder after
  pub reported : lines ≡ opening ++ answer
  pub cut : why ≡ first_cut opened acted

-- ---- many steps

-- A step that failed ends a run, unless it is to go on.
abbrev pub ends_run : Bool → Progress → Bool
ends_run keep_going state = state.failed && not keep_going

-- Steps one after the other, with the lines that they print. The first one that was cut says why.
abbrev pub RunsSteps : Cut → Bool → World → Bool → List RunStep → Progress → List Bytes → Folder → Progress → Type 0
RunsSteps why journals world keep_going [] before lines folder after = (why ≡ c.Whole) × (lines ≡ []) × (folder ≡ world.folder) × (after ≡ before)
RunsSteps why journals world keep_going (step ∷ steps) before lines folder after =
    ((ends_run keep_going before ≡ true) × (why ≡ c.Whole) × (lines ≡ []) × (folder ≡ world.folder) × (after ≡ before))
    ⊎ ((ends_run keep_going before ≡ false) × ((one : Cut) × (later : Cut) × (between : Folder) × (mid : Progress) × (first : List Bytes) × (rest : List Bytes)
    × Does one journals world step before first between mid × RunsSteps later journals (record world { folder = between }) keep_going steps mid rest folder after
    × (lines ≡ first ++ rest) × (why ≡ first_cut one later)))
