-- Laws of runs: what whole runs over files do, which no failure cuts, and what a run up to a failure of standard output does; that what buildifier
-- does is a function of its words, standard input and the folder. Names that end in `.bznew` are set aside.
use Rattle.std.specs.Prelude.{◌≡◌, ◌⊎◌, List, [], ◌∷◌, ◌++◌, if◌then◌else◌, true, Some, None, Ok, Err, IfOk}
use Rattle.std.specs.List.{All}
use Rattle.std.specs.FinMap.{get}
use Rattle.bz_buildifier.specs.Words.{Bytes, Folder, IsAside, SameFolders, with_file, FormatFault, ReadFault, fault_excerpt, fault_line}
use Rattle.bz_buildifier.specs.FormatRun.{Effect, FilesFormatted, FormatOutcome, FormatsAs, begun, grown, noted, output_effect, refused, absent, file_out, text_status, is_rewritten}
use Rattle.bz_buildifier.specs.Modes.{clap_fault, format_line, is_bzl}
use Rattle.bz_streams.specs.declared.exit.Cut.TheVariants as c
use Rattle.bz_buildifier.specs.declared.file_type.FileType.{FileType}
use Rattle.bz_buildifier.specs.declared.mode.Mode.{Mode}

-- A file is absent, is not formatted, or is formatted; in the last case the folder has the formatted text there where the
-- mode rewrites it, and all else leaves the folder.
pub data ExactStep (mode : Mode) (file_type : FileType) (name : Bytes) (folder : Folder) (effect : Effect) (after : Folder) : Type 0 where
  exact_absent : get folder name ≡ None → effect ≡ absent name → after ≡ folder → ExactStep mode file_type name folder effect after
  exact_unformatted : (text : Bytes) (fault : FormatFault) → get folder name ≡ Some text → FormatsAs (is_bzl file_type name) text (Err fault) → effect ≡ refused name text fault
      → effect.cut ≡ c.Whole → after ≡ folder → ExactStep mode file_type name folder effect after
  exact_formatted : (text new : Bytes) → get folder name ≡ Some text → FormatsAs (is_bzl file_type name) text (Ok new)
      → effect ≡ noted name text (output_effect (file_out mode name text new) (text_status mode text new))
      → after ≡ (if is_rewritten mode text new then with_file folder name new else folder) → ExactStep mode file_type name folder effect after

abbrev pub Exact : Mode → FileType → List Bytes → Effect → Folder → Effect → Folder → Type 0
Exact mode file_type [] run folder after folder' = (after ≡ run) × (folder' ≡ folder)
Exact mode file_type (name ∷ names) run folder after folder' =
    (effect : Effect) × (mid : Folder) × ExactStep mode file_type name folder effect mid × Exact mode file_type names (grown run effect) mid after folder'

-- A whole run over files of other names does exactly that, and the folder then is the one that this gives.
abbrev pub WholeRunsAreExact : Type 0
WholeRunsAreExact = (mode : Mode) (file_type : FileType) (names : List Bytes) (run : Effect) (folder after : Folder) → FilesFormatted mode file_type names begun folder run after
    → run.cut ≡ c.Whole → All (λ name. IsAside name → ⊥) names
    → (exact : Folder) × Exact mode file_type names begun folder run exact × SameFolders exact after

-- A run that a failure of standard output cuts has done, up to some file, what an exact run over the files so far does; what was to be
-- written by then is the output of that run, and nothing was written after it.
abbrev pub CutRunsAreBegun : Type 0
CutRunsAreBegun = (mode : Mode) (file_type : FileType) (names : List Bytes) (run : Effect) (folder after : Folder) → FilesFormatted mode file_type names begun folder run after
    → run.cut ≡ c.Write → All (λ name. IsAside name → ⊥) names
    → (front rest : List Bytes) × (names ≡ front ++ rest) × (run.closes ≡ true)
    × (exact : Effect) × (last : Folder) × Exact mode file_type front begun folder exact last × (exact.cut ≡ c.Whole) × (exact.out ≡ run.out)

-- ---- one meaning

-- Two lines are the same, or both report a fault of the same file and text: of a text that is not accepted it is not fixed which.
abbrev pub LinesAreAlike : Bytes → Bytes → Type 0
LinesAreAlike line other = (other ≡ line) ⊎ ((name text : Bytes) × (fault other_fault : ReadFault) × (line ≡ fault_line name fault ++ fault_excerpt text fault)
    × (other ≡ fault_line name other_fault ++ fault_excerpt text other_fault))

-- as many lines, each like the other's
abbrev pub SameReports : List Bytes → List Bytes → Type 0
SameReports [] [] = Unit {0}
SameReports [] (line ∷ lines) = ⊥
SameReports (line ∷ lines) [] = ⊥
SameReports (line ∷ lines) (other ∷ others) = LinesAreAlike line other × SameReports lines others

-- Two runs, or parts of them, write the same, report the same, and end alike.
pub record Agree (one other : Effect) : Type 0 where
  pub out : other.out ≡ one.out
  pub lines : SameReports one.lines other.lines
  pub status : other.status ≡ one.status
  pub cut : other.cut ≡ one.cut
  pub closes : other.closes ≡ one.closes

-- Two runs over the same words, input and folder agree, and leave the same folder, where neither is cut; the text of a fault that clap
-- finds is set aside, and so are names that end in `.bznew`.
abbrev pub OutcomesAgree : Type 0
OutcomesAgree = (words : List Bytes) (input : Bytes) (folder after after' : Folder) (one other : Effect)
    → FormatOutcome words (Some input) folder one after → FormatOutcome words (Some input) folder other after'
    → one.cut ≡ c.Whole → other.cut ≡ c.Whole → (format_line words ≡ Err clap_fault → ⊥)
    → IfOk (format_line words) (λ line. All (λ name. IsAside name → ⊥) line.files)
    → Agree one other × SameFolders after after'
