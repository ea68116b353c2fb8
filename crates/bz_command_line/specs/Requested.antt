-- What the operands of one line request: commands, in order, and targets, in order.
use Rattle.std.specs.Prelude.{ℕ, List, [], ◌∷◌, ◌++◌, if◌then◌else◌, Option, None, Result, Ok, Err}
use Rattle.bz_items.specs.Characters.{Bytes}
use Rattle.bz_label.specs.declared.target.Target.{Target}
use Rattle.bz_command_syntax.specs.declared.profile.Profile.{Profile}
use Rattle.bz_command_line.specs.Operands.{is_target, operand_target, verb_of}
use Rattle.bz_command_line.specs.declared.{verb.Verb.Verb, verb.OperandFault.OperandFault}

-- a command, and its text
pub record Request : Type 0 where
  pub verb : Verb
  pub text : Bytes

pub record Requested : Type 0 where
  pub commands : List Request
  pub targets : List Target

-- why `regex` refuses a pattern: from this byte on, from 1, and for this reason, in its own words; or that it is too large
pub data PatternFault : Type 0 where
  syntax : ℕ → Bytes → PatternFault
  too_large : PatternFault

-- an operand that is refused in a profile; of a pattern with the reason, where that is known
pub record Refused : Type 0 where
  pub profile : Profile
  pub operand : Bytes
  pub fault : OperandFault
  pub pattern : Option PatternFault

-- an operand that is refused for another cause than its pattern
abbrev pub refused_for : Profile → Bytes → OperandFault → Refused
refused_for profile operand fault = record { profile = profile; operand = operand; fault = fault; pattern = None }

abbrev pub nothing_requested : Requested
nothing_requested = record { commands = []; targets = [] }

abbrev pub wanted : Profile → Bytes → Result Verb OperandFault → Result Requested Refused
wanted profile operand (Ok verb) = Ok (record { commands = record { verb = verb; text = operand } ∷ []; targets = [] })
wanted profile operand (Err fault) = Err (refused_for profile operand fault)

abbrev pub aimed : Profile → Bytes → Result Target OperandFault → Result Requested Refused
aimed profile operand (Ok target) = Ok (record { commands = []; targets = target ∷ [] })
aimed profile operand (Err fault) = Err (refused_for profile operand fault)

-- what one operand requests in a profile
abbrev pub requested_by : Profile → Bytes → Result Requested Refused
requested_by profile operand = if is_target operand then aimed profile operand (operand_target operand) else wanted profile operand (verb_of profile operand)

-- what both give together, or the first fault of them
abbrev pub joined_by : {A E : Type 0} → (A → A → A) → Result A E → Result A E → Result A E
joined_by join (Ok first) (Ok more) = Ok (join first more)
joined_by join (Ok first) (Err fault) = Err fault
joined_by join (Err fault) more = Err fault

abbrev pub both : Requested → Requested → Requested
both first more = record { commands = first.commands ++ more.commands; targets = first.targets ++ more.targets }

-- The first refused operand, in order, is reported.
abbrev pub joined_operands : Result Requested Refused → Result Requested Refused → Result Requested Refused
joined_operands first more = joined_by both first more

abbrev pub requested_of : Profile → List Bytes → Result Requested Refused
requested_of profile [] = Ok nothing_requested
requested_of profile (operand ∷ operands) = joined_operands (requested_by profile operand) (requested_of profile operands)

-- why operands, or the lines of a file, request nothing; `in_line` says why the operands of this line, from 1, do
pub data Usage : Type 0 where
  of_operand : Refused → Usage
  no_command : Usage
  no_target : Usage
  no_line : Usage
  nul : ℕ → Usage
  in_line : ℕ → Usage → Usage

-- A line has a command and a target of its own.
abbrev pub complete : List Request → List Target → Result Requested Usage
complete [] targets = Err no_command
complete (command ∷ commands) [] = Err no_target
complete (command ∷ commands) (target ∷ targets) = Ok (record { commands = command ∷ commands; targets = target ∷ targets })

abbrev pub accepted : Result Requested Refused → Result Requested Usage
accepted (Ok requested) = complete requested.commands requested.targets
accepted (Err refused) = Err (of_operand refused)

-- one line: its operands, of which one at least is a command and one a target
abbrev pub operand_group : Profile → List Bytes → Result Requested Usage
operand_group profile operands = accepted (requested_of profile operands)
