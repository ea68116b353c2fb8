-- What a file of lines requests. Its lines end at newlines, each with or without one carriage return before it, and the operands of a
-- line are separated by `|`.
use Rattle.std.specs.Prelude.{ℕ, ◌+◌, ◌==◌, Bool, false, not, List, [], ◌∷◌, ◌++◌, drop, position, option_map, if◌then◌else◌, Option, Some, None, Result, Ok, Err}
use Rattle.std.specs.List.{list_any, slice_split}
use Rattle.std.specs.Str.Lines.{lines}
use Rattle.bz_items.specs.Characters.{Bytes, number_sign, vertical_bar}
use Rattle.bz_command_syntax.specs.declared.profile.Profile.{Profile}
use Rattle.bz_command_line.specs.Operands.{begins_with}
use Rattle.bz_command_line.specs.Requested.{Requested, Usage, no_line, nul, in_line, joined_by, operand_group}

-- the bytes of U+FEFF
abbrev pub byte_order_mark : Bytes
byte_order_mark = 239 ∷ 187 ∷ 191 ∷ []

-- The mark at the beginning of a text is passed over.
abbrev pub without_mark : Bytes → Bytes
without_mark text = if begins_with byte_order_mark text then drop 3 text else text

abbrev pub script_lines : Bytes → List Bytes
script_lines text = lines (without_mark text)

abbrev pub has_nul : Bytes → Bool
has_nul line = list_any (λ byte. byte == 0) line

-- the first line with a NUL byte, from 1
abbrev pub line_with_nul : List Bytes → Option ℕ
line_with_nul all = option_map (λ at. at + 1) (position has_nul all)

-- A line is passed over where it is empty or begins with `#`.
abbrev pub is_read : Bytes → Bool
is_read [] = false
is_read (first ∷ rest) = not (first == number_sign)

abbrev pub operands_in : Bytes → List Bytes
operands_in line = slice_split (λ byte. byte == vertical_bar) line

-- The first fault, in order, is reported.
abbrev pub in_front : Result (List Requested) Usage → Result (List Requested) Usage → Result (List Requested) Usage
in_front first more = joined_by (λ groups later. groups ++ later) first more

abbrev pub group_in_line : ℕ → Result Requested Usage → Result (List Requested) Usage
group_in_line number (Ok requested) = Ok (requested ∷ [])
group_in_line number (Err usage) = Err (in_line number usage)

-- what the line of this number requests
abbrev pub line_group : Profile → ℕ → Bytes → Result (List Requested) Usage
line_group profile number line = if is_read line then group_in_line number (operand_group profile (operands_in line)) else Ok []

-- what each of these lines requests, of which the first has this number
abbrev pub operand_groups : Profile → ℕ → List Bytes → Result (List Requested) Usage
operand_groups profile number [] = Ok []
operand_groups profile number (line ∷ lines) = in_front (line_group profile number line) (operand_groups profile (number + 1) lines)

-- A line at least requests something.
abbrev pub some_groups : Result (List Requested) Usage → Result (List Requested) Usage
some_groups (Ok []) = Err no_line
some_groups (Ok (group ∷ groups)) = Ok (group ∷ groups)
some_groups (Err usage) = Err usage

-- A NUL byte is reported before all else.
abbrev pub without_nul : Profile → Option ℕ → List Bytes → Result (List Requested) Usage
without_nul profile (Some line) lines = Err (nul line)
without_nul profile None lines = some_groups (operand_groups profile 1 lines)

-- what the lines of a file request in a profile
abbrev pub script_of : Profile → Bytes → Result (List Requested) Usage
script_of profile text = without_nul profile (line_with_nul (script_lines text)) (script_lines text)
