-- The verbs that print, and the names and the numbers of refused operands.
use Rattle.std.specs.Prelude.{ℕ, codes, Bool, true, false}
use Rattle.bz_items.specs.Characters.{Bytes}
use Rattle.bz_command_syntax.specs.Faults as c
use Rattle.bz_command_syntax.specs.Printing as p
use Rattle.bz_command_line.specs.declared.{verb.OperandFault.OperandFault, verb.Verb.Verb}
use Rattle.bz_command_line.specs.declared.verb.OperandFault.TheVariants.{Memory, BadTarget, Command}
use Rattle.bz_command_line.specs.declared.verb.Verb.TheVariants.{Do, Undo, Redo, Journal, Format}

-- a command that prints
abbrev pub prints : Verb → Bool
prints (Do command) = p.prints command
prints (Undo count) = false
prints (Redo count) = false
prints Journal = true
prints Format = false

-- the table of refusals: names
abbrev pub operand_fault_name : OperandFault → Bytes
operand_fault_name Memory = codes "Memory"
operand_fault_name BadTarget = codes "BadTarget"
operand_fault_name (Command fault) = c.command_fault_name fault

-- the table of refusals: numbers
abbrev pub operand_fault_number : OperandFault → ℕ
operand_fault_number Memory = 8
operand_fault_number BadTarget = 12
operand_fault_number (Command fault) = c.command_fault_number fault
