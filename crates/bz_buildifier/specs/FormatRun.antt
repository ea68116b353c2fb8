-- What buildifier makes of standard input, or of files one after the other.
use Rattle.std.specs.Prelude.{◌≡◌, ◌⊎◌, ◌==◌, ◌||◌, ℕ, List, [], ◌∷◌, ◌++◌, reverse, take_while, codes, decimal, bytes_eq, eqb, Bool, true, false, not, if◌then◌else◌, Option, Some, None, Result, Ok, Err}
use Rattle.std.specs.FinMap.{get}
use Rattle.std.specs.List.{ends_with, list_any}
use Rattle.std.specs.Option.{option_map_or}
use Rattle.bz_buildifier.specs.Words.{IsAmong, fault_of, ErrorKind, Bytes, full_stop, Folder, SameBut, new_name, with_file, IsReplacing, FileFault, FormatFault, Cut, escaped_text, fault_excerpt, first_cut, Rises, nearest, note_line, odd_name_line, IsInput, stdin, named_line, fault_line, FormatsTo, FormatsBzlTo}
use Rattle.bz_files.specs.declared.files.FileFault.TheVariants as file
use Rattle.bz_build_format.specs.declared.formatter.FormatFault.TheVariants as f
use Rattle.bz_streams.specs.declared.exit.Cut.TheVariants as c
use Rattle.bz_buildifier.specs.declared.file_type.FileType.{FileType}
use Rattle.bz_buildifier.specs.declared.mode.Mode.{Mode}
use Rattle.bz_buildifier.specs.declared.mode.Mode.TheVariants.{Fix, Check, PrintIfChanged}
use Rattle.bz_buildifier.specs.Modes.{FormatLine, FormatUsage, buildifier_app, clap_fault, clap_hint, no_mode, no_type, format_line, is_bzl, mode_in_place, mode_names, type_in_place, type_names}

-- what formatting a text as one of a .bzl file, or as one of a BUILD file, answers
abbrev pub FormatsAs : Bool → Bytes → Result Bytes FormatFault → Type 0
FormatsAs true text answer = FormatsBzlTo text answer
FormatsAs false text answer = FormatsTo text answer

-- ---- what one text does, or a run so far

-- what is said of such a name
abbrev pub odd_name : Bytes
odd_name = codes "a name has a character outside of ASCII, which Bazel refuses: curly quotation marks and no-break spaces are such"

-- what it writes on standard output, what it prints on standard error, its status, and the failure that cuts it, if one
-- does; a failure of standard output closes it
pub record Effect : Type 0 where
  pub out : Bytes
  pub lines : List Bytes
  pub status : ℕ
  pub cut : Cut
  pub closes : Bool

abbrev pub output_effect : Bytes → ℕ → Effect
output_effect out status = record { out = out; lines = []; status = status; cut = c.Whole; closes = false }

-- standard output fails
abbrev pub unprinted : Bytes → Effect
unprinted out = record { out = out; lines = named_line (codes "<stdout>") (codes "cannot write") ∷ []; status = 3; cut = c.Write; closes = true }

abbrev pub report_effect : Bytes → ℕ → Cut → Effect
report_effect line status cut = record { out = []; lines = line ∷ []; status = status; cut = cut; closes = false }

abbrev pub unopened : Bytes → Cut → Effect
unopened name cut = report_effect (named_line name (codes "cannot open")) 3 cut

abbrev pub memory_effect : Bytes → Effect
memory_effect name = report_effect (named_line name (codes "Memory")) 3 c.Memory

abbrev pub unwritten : Bytes → Effect
unwritten name = report_effect (named_line name (codes "cannot write")) 3 c.Files

-- the note on the first line of a text that has a name with a character outside of ASCII
abbrev pub name_notes : Bytes → Bytes → List Bytes
name_notes name text = option_map_or (λ line. note_line (codes "buildifier") name (decimal line) odd_name ∷ []) (odd_name_line text) []

-- an effect by a text that is formatted, after that note
abbrev pub noted : Bytes → Bytes → Effect → Effect
noted name text effect = record effect { lines = name_notes name text ++ effect.lines }

-- a text that is not formatted; below the line on a fault that has a place is the line of the text, with a caret
abbrev pub refused : Bytes → Bytes → FormatFault → Effect
refused name text (f.Unread fault) = report_effect (fault_line name fault ++ fault_excerpt text fault) 1 c.Whole
refused name text f.TooLarge = report_effect (named_line name (codes "TooLarge\n    the formatted text would have more than 67,108,864 bytes")) 3 c.Whole
refused name text f.TooDeep = report_effect (named_line name (codes "TooDeep\n    the formatted text would be nested deeper than 500 levels")) 3 c.Whole
refused name text f.Memory = memory_effect name

-- ---- the modes

-- A file is rewritten where it differs.
abbrev pub is_rewritten : Mode → Bytes → Bytes → Bool
is_rewritten Fix text new = not (bytes_eq new text)
is_rewritten _ text new = false

-- what a file writes on standard output
abbrev pub file_out : Mode → Bytes → Bytes → Bytes → Bytes
file_out Fix name text new = []
file_out Check name text new = if bytes_eq new text then [] else name ++ codes " # reformat\n"
file_out PrintIfChanged name text new = if bytes_eq new text then [] else new

-- Standard input has no place to be rewritten: its formatted text goes to standard output.
abbrev pub input_out : Mode → Bytes → Bytes → Bytes
input_out Fix text new = new
input_out mode text new = file_out mode stdin text new

-- 4 where `check` finds a difference
abbrev pub text_status : Mode → Bytes → Bytes → ℕ
text_status Check text new = if bytes_eq new text then 0 else 4
text_status _ text new = 0

-- Standard output takes what a text of this name writes, or fails, unless it is closed.
abbrev pub Prints : Bool → Bytes → Bytes → Bytes → ℕ → Effect → Type 0
Prints closed name text out status effect =
    (effect ≡ noted name text (output_effect out status)) ⊎ ((closed ≡ false) × (effect ≡ noted name text (unprinted out)))

-- The file holds the text that was formatted right before it is written, and the folder then has the formatted text at its name; or that
-- fails, and where the file doesn't hold the text the folder stays.
abbrev pub Rewrites : Bytes → Bytes → Bytes → Folder → Effect → Folder → Type 0
Rewrites name text new folder effect after =
    ((effect ≡ noted name text (output_effect [] 0)) × (get folder name ≡ Some text) × SameBut (λ other. other ≡ new_name name) (with_file folder name new) after)
    ⊎ ((effect ≡ noted name text (unwritten name)) × ((get folder name ≡ Some text → ⊥) → after ≡ folder) × IsReplacing name new folder after)

-- ---- one file

-- a name that no file can have
abbrev pub is_directory_name : Bytes → Bool
is_directory_name name = ends_with eqb name (codes "/") || (bytes_eq name (codes ".") || bytes_eq name (codes ".."))

-- what is after the last slash, from the end on
abbrev pub last_part : Bytes → Bytes
last_part name = take_while (λ byte. not (byte == 47)) (reverse name)

-- a name of no BUILD file and no .bzl file
abbrev pub may_be_directory : Bytes → Bool
may_be_directory name =
    not ((list_any (λ byte. byte == full_stop) (last_part name)
    || (bytes_eq name (codes "BUILD") || ends_with eqb name (codes "/BUILD")))
    || (bytes_eq name (codes "WORKSPACE") || ends_with eqb name (codes "/WORKSPACE")))

-- what formats a directory, where the name may be of one
abbrev pub directory_words : Bytes → Option Bytes
directory_words name =
    if is_directory_name name then Some (codes "names a directory: see buildifier-tree")
    else (if may_be_directory name then Some (codes "if this is a directory, see buildifier-tree") else None)

-- what formats standard input, where the name is the one that other programs have for that
abbrev pub absent_words : Bytes → Option Bytes
absent_words name = if bytes_eq name (codes "-") then Some (codes "standard input is formatted where no file is named") else None

-- a file that isn't opened, and below that these words on its name
abbrev pub unopened_with : Bytes → Cut → Option Bytes → Effect
unopened_with name cut words = record (unopened name cut) {
  lines = named_line name (codes "cannot open") ∷ option_map_or (λ said. named_line name said ∷ []) words [];
}

-- what isn't there, and what is there and isn't opened
abbrev pub absent : Bytes → Effect
absent name = unopened_with name c.Whole (absent_words name)

abbrev pub unopened_there : Bytes → Effect
unopened_there name = unopened_with name c.Files (directory_words name)

-- a file that is not read
abbrev pub unread_file : Bytes → FileFault → Effect
unread_file name file.Memory = memory_effect name
unread_file name file.Absent = absent name
unread_file name _ = unopened_there name

-- A file that is not read is reported, an absent one among them. What is read is formatted, or reported. Where the mode rewrites
-- a file the folder changes; all else leaves the folder.
pub data FileStep (mode : Mode) (file_type : FileType) (name : Bytes) (closed : Bool) (folder : Folder) (effect : Effect) (after : Folder) : Type 0 where
  unread : (fault : FileFault) → (fault ≡ file.Absent → get folder name ≡ None) → effect ≡ unread_file name fault → after ≡ folder
      → FileStep mode file_type name closed folder effect after
  without_memory : effect ≡ memory_effect name → after ≡ folder → FileStep mode file_type name closed folder effect after
  unformatted : (text : Bytes) (fault : FormatFault) → get folder name ≡ Some text → FormatsAs (is_bzl file_type name) text (Err fault) → effect ≡ refused name text fault
      → after ≡ folder → FileStep mode file_type name closed folder effect after
  kept : (text new : Bytes) → get folder name ≡ Some text → FormatsAs (is_bzl file_type name) text (Ok new) → is_rewritten mode text new ≡ false
      → Prints closed name text (file_out mode name text new) (text_status mode text new) effect → after ≡ folder
      → FileStep mode file_type name closed folder effect after
  rewritten : (text new : Bytes) → get folder name ≡ Some text → FormatsAs (is_bzl file_type name) text (Ok new) → is_rewritten mode text new ≡ true
      → Rewrites name text new folder effect after → FileStep mode file_type name closed folder effect after

-- ---- standard input

pub data InputStep (mode : Mode) (file_type : FileType) (known : Option Bytes) (effect : Effect) : Type 0 where
  input_unread : effect ≡ unopened stdin c.Read → InputStep mode file_type known effect
  input_without_memory : effect ≡ memory_effect stdin → InputStep mode file_type known effect
  input_unformatted : (text : Bytes) (fault : FormatFault) → IsInput known text → FormatsAs (is_bzl file_type stdin) text (Err fault) → effect ≡ refused stdin text fault
      → InputStep mode file_type known effect
  input_printed : (text new : Bytes) → IsInput known text → FormatsAs (is_bzl file_type stdin) text (Ok new)
      → Prints false stdin text (input_out mode text new) (text_status mode text new) effect → InputStep mode file_type known effect

-- ---- whole runs

abbrev pub begun : Effect
begun = output_effect [] 0

-- 3 where one of two is that, else 1, else 4, else 0
abbrev pub worse : ℕ → ℕ → ℕ
worse a b = if a == 3 || b == 3 then 3 else (if a == 1 || b == 1 then 1 else (if a == 4 || b == 4 then 4 else 0))

-- Once standard output is closed nothing more comes there.
abbrev pub grown : Effect → Effect → Effect
grown run effect = record {
  out = if run.closes then run.out else run.out ++ effect.out;
  lines = run.lines ++ effect.lines;
  status = worse run.status effect.status;
  cut = first_cut run.cut effect.cut;
  closes = run.closes || effect.closes;
}

-- One file after the other.
abbrev pub FilesFormatted : Mode → FileType → List Bytes → Effect → Folder → Effect → Folder → Type 0
FilesFormatted mode file_type [] run folder after folder' = (after ≡ run) × (folder' ≡ folder)
FilesFormatted mode file_type (name ∷ names) run folder after folder' =
    (effect : Effect) × (mid : Folder) × FileStep mode file_type name run.closes folder effect mid × FilesFormatted mode file_type names (grown run effect) mid after folder'

-- Without files it is standard input.
abbrev pub RunOf : Mode → FileType → List Bytes → Option Bytes → Folder → Effect → Folder → Type 0
RunOf mode file_type [] known folder after folder' = (effect : Effect) × InputStep mode file_type known effect × (after ≡ grown begun effect) × (folder' ≡ folder)
RunOf mode file_type (name ∷ names) known folder after folder' = FilesFormatted mode file_type (name ∷ names) begun folder after folder'

-- a text that is none of an option's words; after its line is one of the word that is near, if one is, else what does its work here
abbrev pub no_word_line : Bytes → Bytes → Option Bytes → Bytes → Bytes
no_word_line option name None place = codes "buildifier: no " ++ (option ++ (codes ": " ++ (escaped_text name ++ (codes "\n" ++ place))))
no_word_line option name (Some word) place = codes "buildifier: no "
    ++ (option ++ (codes ": " ++ (escaped_text name ++ (codes "\nbuildifier: did you mean '--" ++ (option ++ (codes "=" ++ (word ++ codes "'?\n")))))))

-- Of a fault that clap finds the text is clap's, and below it is what may help.
abbrev pub IsFormatUsageLine : List Bytes → FormatUsage → Bytes → Type 0
IsFormatUsageLine words clap_fault line =
    (kind : ErrorKind) × (text : Bytes) × IsAmong kind (fault_of buildifier_app words) × (line ≡ text ++ clap_hint kind words)
IsFormatUsageLine words (no_mode name) line = line ≡ no_word_line (codes "mode") name (nearest name mode_names) (mode_in_place name)
IsFormatUsageLine words (no_type name) line = line ≡ no_word_line (codes "type") name (nearest name type_names) (type_in_place name)

-- Words that are no line of buildifier's have status 2; nothing is then read.
abbrev pub FormatOutcomeOf : List Bytes → Result FormatLine FormatUsage → Option Bytes → Folder → Effect → Folder → Type 0
FormatOutcomeOf words (Err usage) known folder after folder' =
    (line : Bytes) × IsFormatUsageLine words usage line × (after ≡ record begun { lines = line ∷ []; status = 2 }) × (folder' ≡ folder)
FormatOutcomeOf words (Ok line) known folder after folder' = RunOf line.mode line.file_type line.files known folder after folder'

-- Words, the bytes of standard input where they are known, and the folder before: what the run has done at its end, and
-- the folder after. Memory may be refused before anything is done, which is reported.
abbrev pub FormatOutcome : List Bytes → Option Bytes → Folder → Effect → Folder → Type 0
FormatOutcome words known folder after folder' =
    ((after ≡ record begun { lines = named_line (codes "buildifier") (codes "Memory") ∷ []; status = 3; cut = c.Memory }) × (folder' ≡ folder))
    ⊎ FormatOutcomeOf words (format_line words) known folder after folder'

-- ---- why a run of files is cut

-- It is cut where a count of faults rose; where none is, none has risen. (Files, then standard output, each before and after.)
abbrev pub IsCutBy : Cut → ℕ → ℕ → ℕ → ℕ → Type 0
IsCutBy c.Whole files files' out out' = (files' ≡ files) × (out' ≡ out)
IsCutBy c.Memory files files' out out' = Unit {0}
IsCutBy c.Read files files' out out' = ⊥
IsCutBy c.Write files files' out out' = Rises out out'
IsCutBy c.Files files files' out out' = Rises files files'
