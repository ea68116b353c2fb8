-- What the words of a command line say, as clap reads them.
use Rattle.std.specs.Prelude.{◌==◌, Option, Some, None, List, [], ◌∷◌, length, codes, bytes_eq, Bool, false, ◌&&◌, if◌then◌else◌, unwrap_or, Result, Ok, Err}
use Rattle.std.specs.Option.{option_map_or}
use Rattle.clap.specs.Words.{Row, Text, all_of, first_of, fault_of, matches_of}
use Rattle.bz_command_syntax.specs.declared.profile.Profile.{Profile}
use Rattle.bz_command_syntax.specs.declared.profile.Profile.TheVariants.{Own, Bazelbuild}
use Rattle.bz_command_line.specs.App.{buildozer_app}
use Rattle.bz_command_line.specs.declared.line.Options.{Options}

-- where commands and targets are: among the words, or in a file of lines
pub data Given : Type 0 where
  operands : List Text → Given
  script : Text → Given

pub record CommandLine : Type 0 where
  pub options : Options
  pub given : Given

-- why words are no line of the program's: a fault that clap finds, a text that is no profile, operands beside `-f`, or `--journal` beside
-- `--stdout`
pub data LineUsage : Type 0 where
  of_clap : LineUsage
  no_profile : Text → LineUsage
  beside_script : LineUsage
  beside_stdout : LineUsage

-- the flag was given
abbrev pub is_flag_set : Text → List Row → Bool
is_flag_set id rows = option_map_or (λ text. bytes_eq text (codes "true")) (first_of id rows) false

-- the profile of this name
abbrev pub profile_called : Text → Result Profile LineUsage
profile_called name = if bytes_eq name (codes "own") then Ok Own else (if bytes_eq name (codes "bazelbuild") then Ok Bazelbuild else Err (no_profile name))

-- The profile is `own` where none is named.
abbrev pub profile_of : List Row → Result Profile LineUsage
profile_of rows = profile_called (unwrap_or (first_of (codes "profile") rows) (codes "own"))

abbrev pub options_of : Profile → List Row → Options
options_of profile rows = record {
  keep_going = is_flag_set (codes "keep_going") rows;
  to_stdout = is_flag_set (codes "stdout") rows;
  quiet = is_flag_set (codes "quiet") rows;
  journal = is_flag_set (codes "journal") rows;
  profile = profile;
}

-- what is after `-f`, where it is given, and the operands
abbrev pub given_by : Option Text → List Text → Result Given LineUsage
given_by None texts = Ok (operands texts)
given_by (Some file) [] = Ok (script file)
given_by (Some file) (text ∷ texts) = Err beside_script

abbrev pub given_of : List Row → Result Given LineUsage
given_of rows = given_by (first_of (codes "file") rows) (unwrap_or (all_of (codes "operand") rows) [])

-- Operands beside `-f` are reported first.
abbrev pub with_options : Options → Result Given LineUsage → Result CommandLine LineUsage
with_options options (Ok given) = if options.journal && options.to_stdout then Err beside_stdout else Ok (record { options = options; given = given })
with_options options (Err usage) = Err usage

-- A text that is no profile is reported before all that clap finds right.
abbrev pub with_profile : Result Profile LineUsage → List Row → Result CommandLine LineUsage
with_profile (Ok profile) rows = with_options (options_of profile rows) (given_of rows)
with_profile (Err usage) rows = Err usage

-- what the rows that clap found say
abbrev pub line_of : List Row → Result CommandLine LineUsage
line_of rows = with_profile (profile_of rows) rows

-- the line that the words say, or why they say none
abbrev pub command_line_of : List Text → Result CommandLine LineUsage
command_line_of words = if length (fault_of buildozer_app words) == 0 then line_of (matches_of buildozer_app words) else Err of_clap
