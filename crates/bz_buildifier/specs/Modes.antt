-- The command line of buildifier: what its words say.
use Rattle.std.specs.Prelude.{◌==◌, ◌||◌, Bool, false, List, [], ◌∷◌, length, codes, bytes_eq, eqb, if◌then◌else◌, unwrap_or, Option, Some, None, Result, Ok, Err, true}
use Rattle.std.specs.List.{ends_with}
use Rattle.bz_buildifier.specs.Words.{App, Rule, Row, all_of, first_of, fault_of, matches_of, new_app, new_rule, with_rule, ErrorKind, Bytes, OptionTable, option_hint}
use Rattle.clap.specs.declared.builder.action.ArgAction.TheVariants.{Append}
use Rattle.clap.specs.declared.error.kind.ErrorKind.TheVariants as kind
use Rattle.bz_buildifier.specs.declared.file_type.FileType.{FileType}
use Rattle.bz_buildifier.specs.declared.file_type.FileType.TheVariants.{Auto, Build, Bzl}
use Rattle.bz_buildifier.specs.declared.mode.Mode.{Mode}
use Rattle.bz_buildifier.specs.declared.mode.Mode.TheVariants.{Fix, Check, PrintIfChanged}

-- ---- the line as clap's rules: `--mode` and `--type`, each with a text, and any number of files

abbrev pub option_rule : Bytes → Rule
option_rule name = record (new_rule name) { long = Some name; value_names = 1 }

abbrev pub files_rule : Rule
files_rule = record (new_rule (codes "file")) { action = Some Append; value_names = 1 }

-- the words are those after the program's own name, and `--version` is one
abbrev pub nameless_buildifier : App
nameless_buildifier = let app = new_app (codes "buildifier") in record { top = record app.top { no_binary_name = true; has_version = true }; subs = [] }

abbrev pub buildifier_app : App
buildifier_app = with_rule (with_rule (with_rule nameless_buildifier (option_rule (codes "mode"))) (option_rule (codes "type"))) files_rule

-- ---- what is below clap's text

abbrev pub buildifier_options : OptionTable
buildifier_options = record { program = codes "buildifier"; names = codes "mode" ∷ codes "type" ∷ codes "help" ∷ codes "version" ∷ []; letters = codes "hV" }

-- Help and the version are faults for clap; nothing is wrong with the words.
abbrev pub is_request : ErrorKind → Bool
is_request kind.DisplayHelp = true
is_request kind.DisplayVersion = true
is_request _ = false

-- what is below clap's text of a fault of this kind
abbrev pub clap_hint : ErrorKind → List Bytes → Bytes
clap_hint fault words = if is_request fault then [] else option_hint buildifier_options words

-- ---- what the words say

abbrev pub mode_called : Bytes → Option Mode
mode_called name = if bytes_eq name (codes "fix") then Some Fix
    else (if bytes_eq name (codes "check") then Some Check
    else (if bytes_eq name (codes "print_if_changed") then Some PrintIfChanged else None))

-- all names of modes
abbrev pub mode_names : List Bytes
mode_names = codes "fix" ∷ codes "check" ∷ codes "print_if_changed" ∷ []

-- the line of what does the work of a mode of bazelbuild's buildifier that is none here
abbrev pub mode_in_place : Bytes → Bytes
mode_in_place name = if bytes_eq name (codes "diff") then codes "buildifier: buildifier-tree --mode=diff FILE.. shows what would change\n" else []

abbrev pub type_called : Bytes → Option FileType
type_called name = if bytes_eq name (codes "auto") then Some Auto
    else (if bytes_eq name (codes "build") then Some Build
    else (if bytes_eq name (codes "bzl") then Some Bzl else None))

-- all names of types
abbrev pub type_names : List Bytes
type_names = codes "auto" ∷ codes "build" ∷ codes "bzl" ∷ []

-- the same of its types
abbrev pub type_in_place : Bytes → Bytes
type_in_place name = if bytes_eq name (codes "module") || bytes_eq name (codes "workspace") then codes "buildifier: such files are read with --type=build\n"
    else (if bytes_eq name (codes "default") then codes "buildifier: Starlark of any kind is read with --type=bzl\n" else [])

-- a mode, a type, and files by their names
pub record FormatLine : Type 0 where
  pub mode : Mode
  pub file_type : FileType
  pub files : List Bytes

-- Why words are no line of buildifier's: a fault that clap finds, a text that is no mode, or one that is no type.
pub data FormatUsage : Type 0 where
  clap_fault : FormatUsage
  no_mode : Bytes → FormatUsage
  no_type : Bytes → FormatUsage

-- the mode is looked at first
abbrev pub format_line_of : Bytes → Option Mode → Bytes → Option FileType → List Bytes → Result FormatLine FormatUsage
format_line_of mode_word None type_word file_type files = Err (no_mode mode_word)
format_line_of mode_word (Some mode) type_word None files = Err (no_type type_word)
format_line_of mode_word (Some mode) type_word (Some file_type) files = Ok (record { mode = mode; file_type = file_type; files = files })

-- The mode is `fix` where none is named, and the type `auto`.
abbrev pub format_line_in : List Row → Result FormatLine FormatUsage
format_line_in rows =
    let mode = unwrap_or (first_of (codes "mode") rows) (codes "fix") in
    let file_type = unwrap_or (first_of (codes "type") rows) (codes "auto") in
    format_line_of mode (mode_called mode) file_type (type_called file_type) (unwrap_or (all_of (codes "file") rows) [])

-- the line of the words, or why they are none
abbrev pub format_line : List Bytes → Result FormatLine FormatUsage
format_line words =
    if length (fault_of buildifier_app words) == 0 then format_line_in (matches_of buildifier_app words) else Err clap_fault

-- Whether a file of this name is formatted as a .bzl file: as it is said of all, or else where the name ends in `.bzl`.
abbrev pub is_bzl : FileType → Bytes → Bool
is_bzl Auto name = ends_with eqb name (codes ".bzl")
is_bzl Build name = false
is_bzl Bzl name = true
