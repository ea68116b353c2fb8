-- The names and the numbers of faults.
use Rattle.std.specs.Prelude.{ℕ, codes}
use Rattle.bz_items.specs.Characters.{Bytes}
use Rattle.bz_command_syntax.specs.declared.fault.CommandFault.{CommandFault}
use Rattle.bz_command_syntax.specs.declared.fault.CommandFault.TheVariants.{Unknown, Arguments, BadPattern, Memory}

-- the table of faults: names
abbrev pub command_fault_name : CommandFault → Bytes
command_fault_name Unknown = codes "Unknown"
command_fault_name Arguments = codes "Arguments"
command_fault_name BadPattern = codes "BadPattern"
command_fault_name Memory = codes "Memory"

-- the table of faults: numbers
abbrev pub command_fault_number : CommandFault → ℕ
command_fault_number Unknown = 31
command_fault_number Arguments = 32
command_fault_number BadPattern = 33
command_fault_number Memory = 8
