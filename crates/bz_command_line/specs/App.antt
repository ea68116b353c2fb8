-- The command line of buildozer, as clap's rules.
use Rattle.std.specs.Prelude.{List, Some, [], ◌∷◌, codes, true}
use Rattle.clap.specs.Words.{App, Rule, Text, new_app, new_rule, with_rule}
use Rattle.clap.specs.declared.builder.action.ArgAction.TheVariants.{SetTrue, Append}
use Rattle.bz_items.specs.Characters.{Bytes, letter_f, letter_k}
use Rattle.bz_streams.specs.Options.{OptionTable, option_hint}

-- `-k`: a failed line doesn't keep the next ones from being run
abbrev pub keep_going_rule : Rule
keep_going_rule = record (new_rule (codes "keep_going")) { short = Some letter_k; action = Some SetTrue }

-- `-f FILE`: the operands are in a file of lines
abbrev pub script_rule : Rule
script_rule = record (new_rule (codes "file")) { short = Some letter_f; value_names = 1 }

-- an option of this name without a value
abbrev pub flag_rule : Text → Rule
flag_rule name = record (new_rule name) { long = Some name; action = Some SetTrue }

-- `--profile PROFILE`
abbrev pub profile_rule : Rule
profile_rule = record (new_rule (codes "profile")) { long = Some (codes "profile"); value_names = 1 }

abbrev pub operand_rule : Rule
operand_rule = record (new_rule (codes "operand")) { action = Some Append; value_names = 1 }

-- the words are those after the program's own name, and `--version` is one
abbrev pub nameless : App
nameless = let app = new_app (codes "buildozer") in record { top = record app.top { no_binary_name = true; has_version = true }; subs = [] }

-- how lines are found and run
abbrev pub lines_app : App
lines_app = with_rule (with_rule (with_rule nameless operand_rule) keep_going_rule) script_rule

-- and what becomes of files
abbrev pub files_app : App
files_app = with_rule (with_rule (with_rule lines_app (flag_rule (codes "stdout"))) (flag_rule (codes "quiet"))) (flag_rule (codes "journal"))

-- and what commands mean: buildozer [-k] [-f FILE] [--stdout] [--quiet] [--journal] [--profile PROFILE] [OPERAND..]
abbrev pub buildozer_app : App
buildozer_app = with_rule files_app profile_rule

-- the same options, with those that clap adds
abbrev pub buildozer_options : OptionTable
buildozer_options = record {
  program = codes "buildozer";
  names = codes "stdout" ∷ codes "quiet" ∷ codes "journal" ∷ codes "profile" ∷ codes "help" ∷ codes "version" ∷ [];
  letters = codes "kfhV";
}

-- what is printed below clap's text of words that it refuses
abbrev pub line_hint : List Text → Bytes
line_hint words = option_hint buildozer_options words
