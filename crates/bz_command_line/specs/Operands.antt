-- What an operand of the command line says: a command or a target.
use Rattle.std.specs.Prelude.{◌==◌, ℕ, ◌^◌, List, [], ◌∷◌, length, take, codes, bytes_eq, nat_lt, nat_le, Bool, not, ◌&&◌, ◌||◌, if◌then◌else◌, Option, Some, None, Result, Ok, Err}
use Rattle.std.specs.Str.{all_ascii_digits}
use Rattle.std.specs.Option.{ok_or, option_map_or}
use Rattle.std.specs.Result.{result_map_both}
use Rattle.std.specs.List.{list_any}
use Rattle.bz_items.specs.Characters.{Bytes, space}
use Rattle.bz_label.specs.Pieces.{has_colon}
use Rattle.bz_label.specs.TargetRead.{target_in}
use Rattle.bz_label.specs.Targets.{decimal}
use Rattle.bz_label.specs.declared.target.Target.{Target}
use Rattle.bz_command_syntax.specs.Commands.{command_in, text_limit}
use Rattle.bz_command_syntax.specs.Words.{words_of}
use Rattle.bz_command_syntax.specs.declared.command.Operation.{Operation}
use Rattle.bz_command_syntax.specs.declared.profile.Profile.{Profile}
use Rattle.bz_command_syntax.specs.declared.fault.CommandFault.{CommandFault}
use Rattle.bz_command_syntax.specs.declared.fault.CommandFault.TheVariants as c
use Rattle.bz_command_line.specs.declared.{verb.Verb.Verb, verb.OperandFault.OperandFault}
use Rattle.bz_command_line.specs.declared.verb.Verb.TheVariants.{Do, Undo, Redo, Journal, Format}
use Rattle.bz_command_line.specs.declared.verb.OperandFault.TheVariants.{Memory, BadTarget, Command}

abbrev pub begins_with : Bytes → Bytes → Bool
begins_with front text = bytes_eq (take (length front) text) front

-- An operand without a space that holds a colon or begins with two slashes is a target; every other one is a command.
abbrev pub is_target : Bytes → Bool
is_target operand = not (list_any (λ byte. byte == space) operand) && (has_colon operand || begins_with (codes "//") operand)

-- the target of this text, of any package
abbrev pub operand_target : Bytes → Result Target OperandFault
operand_target text = ok_or (target_in text) BadTarget

-- ---- `undo`, `redo`, `journal` and `format`, which no rule is looked at for

-- a count of steps: decimal, from 1 to 4,294,967,295
abbrev pub count_of : Bytes → Option ℕ
count_of word = if all_ascii_digits word && nat_lt 0 (decimal word) && nat_lt (decimal word) (2 ^ 32) then Some (decimal word) else None

-- `undo` and `redo` take a count of steps, or none for one step.
abbrev pub steps_of : List Bytes → Result ℕ OperandFault
steps_of [] = Ok 1
steps_of (count ∷ []) = ok_or (count_of count) (Command c.Arguments)
steps_of (count ∷ argument ∷ more) = Err (Command c.Arguments)

-- `journal` and `format` take nothing.
abbrev pub without_words : Verb → List Bytes → Result Verb OperandFault
without_words verb [] = Ok verb
without_words verb (argument ∷ more) = Err (Command c.Arguments)

-- what the one that these words begin with reads in the others, where they begin with one
abbrev pub file_verb_in : List Bytes → Option (Result Verb OperandFault)
file_verb_in [] = None
file_verb_in (name ∷ arguments) =
    if bytes_eq name (codes "undo") then Some (result_map_both Undo (λ fault. fault) (steps_of arguments))
    else (if bytes_eq name (codes "redo") then Some (result_map_both Redo (λ fault. fault) (steps_of arguments))
    else (if bytes_eq name (codes "journal") then Some (without_words Journal arguments)
    else (if bytes_eq name (codes "format") then Some (without_words Format arguments) else None)))

-- ---- commands

abbrev pub of_command : CommandFault → OperandFault
of_command c.Memory = Memory
of_command fault = Command fault

abbrev pub by_command : Result Operation CommandFault → Result Verb OperandFault
by_command read = result_map_both Do of_command read

-- what the words of a text request in a profile: `undo`, `redo`, `journal` or `format`, else a command on the rules of a target; the flag: the text
-- is not too long
abbrev pub verb_in : Profile → Bool → List Bytes → Result Verb OperandFault
verb_in profile fits words =
    option_map_or (λ verb. if fits then verb else Err (Command c.Arguments)) (file_verb_in words) (by_command (command_in profile fits words))

abbrev pub verb_of : Profile → Bytes → Result Verb OperandFault
verb_of profile text = verb_in profile (nat_le (length text) text_limit) (words_of text)
