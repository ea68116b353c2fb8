-- Faults of reading and their numbers.
use Rattle.std.specs.Prelude.{ℕ, Bool, true, false}
use Rattle.bz_lex.specs.declared.fault.ReadFault.{ReadFault}
use Rattle.bz_lex.specs.declared.fault.ReadFault.TheVariants as v
use Rattle.bz_lex.specs.declared.front.Reason.{Reason}
use Rattle.bz_lex.specs.declared.front.Reason.TheVariants as r

-- NotUtf8 1, TooLarge 2, BadCharacter 3, OpenString 4, Indented 5, Unexpected 6, TooDeep 7, Memory 8
abbrev pub fault_number : ReadFault → ℕ
fault_number (v.NotUtf8 at) = 1
fault_number v.TooLarge = 2
fault_number (v.BadCharacter line column) = 3
fault_number (v.OpenString line column) = 4
fault_number (v.Indented line column) = 5
fault_number (v.Unexpected line column) = 6
fault_number (v.TooDeep line column) = 7
fault_number v.Memory = 8

-- the faults of a reason for which reading stops
abbrev pub is_of_leaves : ReadFault → Bool
is_of_leaves (v.BadCharacter line column) = true
is_of_leaves (v.OpenString line column) = true
is_of_leaves (v.Indented line column) = true
is_of_leaves (v.Unexpected line column) = true
is_of_leaves _ = false

-- the faults of lexemes alone, and of memory
abbrev pub is_lexical : ReadFault → Bool
is_lexical (v.BadCharacter line column) = true
is_lexical (v.OpenString line column) = true
is_lexical v.Memory = true
is_lexical _ = false

-- the fault of a reason at this line and column
abbrev pub fault_of : Reason → ℕ → ℕ → ReadFault
fault_of r.BadCharacter line column = v.BadCharacter line column
fault_of r.OpenString line column = v.OpenString line column
fault_of r.Indented line column = v.Indented line column
fault_of r.Unexpected line column = v.Unexpected line column
