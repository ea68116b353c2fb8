-- Why operands and lines are refused. Whether `regex` takes a pattern is said here alone: a command's pattern is its source.
use Rattle.std.specs.Prelude.{◌≡◌, ◌⊎◌, ◌+◌, ℕ, List, ◌∷◌, ◌++◌, length, true, None, Ok, Err}
use Rattle.bz_items.specs.Characters.{Bytes}
use Rattle.bz_command_syntax.specs.Commands.{command_of}
use Rattle.bz_command_syntax.specs.Refused.{HasBadPattern}
use Rattle.bz_command_syntax.specs.declared.profile.Profile.{Profile}
use Rattle.bz_command_syntax.specs.declared.fault.CommandFault.TheVariants.{BadPattern}
use Rattle.bz_command_line.specs.Requested.{Requested, Refused, Usage, of_operand, no_command, no_target, in_line, refused_for, requested_by, requested_of, operand_group}
use Rattle.bz_command_line.specs.Script.{line_with_nul, script_lines, is_read, operands_in, operand_groups, script_of}
use Rattle.bz_command_line.specs.declared.verb.OperandFault.{OperandFault}
use Rattle.bz_command_line.specs.declared.verb.OperandFault.TheVariants.{Command}

-- a substitution whose pattern `regex` refuses
abbrev pub IsPatternFault : Profile → Bytes → OperandFault → Type 0
IsPatternFault profile operand fault = (fault ≡ Command BadPattern) × HasBadPattern (command_of profile operand)

-- memory aside: what the operand requests, or a pattern that is refused where nothing else is wrong
abbrev pub IsOperandFault : Profile → Bytes → OperandFault → Type 0
IsOperandFault profile operand fault = (requested_by profile operand ≡ Err (refused_for profile operand fault)) ⊎ IsPatternFault profile operand fault

-- the same of what is reported, of a pattern with the reason or without it
abbrev pub IsRefusedOperand : Profile → Refused → Type 0
IsRefusedOperand profile refused = (requested_by profile refused.operand ≡ Err refused) ⊎ IsPatternFault profile refused.operand refused.fault

-- The first operand that is refused.
pub record IsFirstRefused (profile : Profile) (operands : List Bytes) (refused : Refused) : Type 0 where
  pub front : List Bytes
  pub rest : List Bytes
  pub requested : Requested
  pub split : operands ≡ front ++ refused.operand ∷ rest
  pub before : requested_of profile front ≡ Ok requested
  pub fault : IsRefusedOperand profile refused

-- why the operands of one line request nothing
abbrev pub IsGroupFault : Profile → List Bytes → Usage → Type 0
IsGroupFault profile operands (of_operand refused) = IsFirstRefused profile operands refused
IsGroupFault profile operands no_command = operand_group profile operands ≡ Err no_command
IsGroupFault profile operands no_target = operand_group profile operands ≡ Err no_target
IsGroupFault profile operands usage = ⊥

-- why the line of this number requests nothing
abbrev pub IsLineFault : Profile → ℕ → Bytes → Usage → Type 0
IsLineFault profile number line usage = (is_read line ≡ true) × (why : Usage) × IsGroupFault profile (operands_in line) why × (usage ≡ in_line number why)

-- The first line that is refused, by its number.
pub record IsFirstFault (profile : Profile) (lines : List Bytes) (usage : Usage) : Type 0 where
  pub front : List Bytes
  pub line : Bytes
  pub rest : List Bytes
  pub groups : List Requested
  pub split : lines ≡ front ++ line ∷ rest
  pub before : operand_groups profile 1 front ≡ Ok groups
  pub fault : IsLineFault profile (length front + 1) line usage

-- why the lines of a file request nothing; where none has a NUL byte, the first fault may be a pattern
abbrev pub IsScriptFault : Profile → Bytes → Usage → Type 0
IsScriptFault profile text usage = (script_of profile text ≡ Err usage) ⊎ ((line_with_nul (script_lines text) ≡ None) × IsFirstFault profile (script_lines text) usage)
