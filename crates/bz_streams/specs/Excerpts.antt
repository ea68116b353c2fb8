-- The line of a text that is not accepted, and a caret below the place of its fault, with what is there.
use Rattle.std.specs.Prelude.{ℕ, ◌-◌, ◌++◌, [], length, replicate, codes, nat_le, Bool, ◌&&◌, if◌then◌else◌, Option, Some, None, unwrap_or}
use Rattle.std.specs.List.{slice_get, slice_split}
use Rattle.std.specs.Option.{is_none, option_map_or}
use Rattle.bz_items.specs.Characters.{Bytes, space}
use Rattle.bz_lex.specs.Positions.{is_newline}
use Rattle.bz_streams.specs.Controls.{printable}
use Rattle.bz_streams.specs.Beginnings.{from_character, beginning}
use Rattle.bz_streams.specs.Brackets.{fault_bracket}
use Rattle.bz_lex.specs.declared.fault.ReadFault.{ReadFault}
use Rattle.bz_lex.specs.declared.fault.ReadFault.TheVariants as f

-- the line of this number, from 1; nothing where there is none
abbrev pub line_numbered : Bytes → ℕ → Bytes
line_numbered text number = unwrap_or (slice_get (slice_split is_newline text) (number - 1)) []

-- There is no line after it.
abbrev pub is_last_line : Bytes → ℕ → Bool
is_last_line text number = is_none (slice_get (slice_split is_newline text) number)

-- a line of at most 200 bytes, and a column within it or right after it
abbrev pub is_narrow : Bytes → ℕ → Bool
is_narrow line column = nat_le (length line) 200 && nat_le column 201

-- such a line, and below it a caret at that column, with what is there; the flag: the line is the last one
abbrev pub excerpt : Bytes → ℕ → Bool → Bytes
excerpt line column last =
    if is_narrow line column
    then codes "    " ++ printable line ++ codes "\n    " ++ replicate (column - 1) space ++ codes "^ " ++ beginning (from_character (column - 1) line) last ++ codes "\n"
    else []

-- the line and the column of a fault that has a place
abbrev pub fault_place : ReadFault → Option (ℕ × ℕ)
fault_place (f.NotUtf8 at) = None
fault_place f.TooLarge = None
fault_place (f.BadCharacter line column) = Some (line, column)
fault_place (f.OpenString line column) = Some (line, column)
fault_place (f.Indented line column) = Some (line, column)
fault_place (f.Unexpected line column) = Some (line, column)
fault_place (f.TooDeep line column) = Some (line, column)
fault_place f.Memory = None

-- what a fault means, in a line of its own; of `Unexpected` it is said what is there
abbrev pub fault_sense : ReadFault → Bytes
fault_sense (f.NotUtf8 at) = codes "    the byte after that many is not UTF-8: save the file as text in UTF-8\n"
fault_sense f.TooLarge = codes "    a text that is read has at most 67,108,864 bytes\n"
fault_sense (f.BadCharacter line column) = codes "    no name, number, string or operator begins with this character\n"
fault_sense (f.OpenString line column) = codes "    the string that begins here is not closed; with one quotation mark it ends on its own line\n"
fault_sense (f.Indented line column) = codes "    a statement begins at the left margin or, in a suite, with the indentation of that suite\n"
fault_sense (f.Unexpected line column) = []
fault_sense (f.TooDeep line column) = codes "    what begins here is nested deeper than 500 levels\n"
fault_sense f.Memory = []

-- the line of the place of a fault, and what the fault means
abbrev pub place_excerpt : Bytes → ReadFault → Bytes
place_excerpt text fault =
    option_map_or (λ place. excerpt (line_numbered text place.0) place.1 (is_last_line text place.0) ++ fault_sense fault) (fault_place fault) []

-- what is printed of the text below the line on its fault: that line, what the fault means, and the bracket that is open there
abbrev pub fault_excerpt : Bytes → ReadFault → Bytes
fault_excerpt text fault = place_excerpt text fault ++ fault_bracket text fault
