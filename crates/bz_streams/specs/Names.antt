-- Names of a text that have a character outside of ASCII.
use Rattle.std.specs.Prelude.{ℕ, ◌+◌, [], ◌∷◌, ◌++◌, codes, ◌&&◌, if◌then◌else◌, Option, Some, None}
use Rattle.bz_items.specs.Characters.{Bytes}
use Rattle.bz_lex.specs.Positions.{is_newline}
use Rattle.bz_streams.specs.Beginnings.{is_beyond_ascii}
use Rattle.bz_streams.specs.Brackets.{is_outside, within_after}
use Rattle.bz_streams.specs.Controls.{escaped_text}
use Rattle.bz_streams.specs.declared.brackets.Within.{Within}
use Rattle.bz_streams.specs.declared.brackets.Within.TheVariants.{Outside}

-- the line of the first byte outside of ASCII that is in no string and no comment, of a text that begins on this line and within this
abbrev pub odd_line_from : Within → ℕ → Bytes → Option ℕ
odd_line_from within line [] = None
odd_line_from within line (byte ∷ rest) =
    if is_beyond_ascii byte && is_outside (within_after within byte) then Some line
    else odd_line_from (within_after within byte) (if is_newline byte then line + 1 else line) rest

-- the line of the first such byte of a text: of one that is accepted it is in a name
abbrev pub odd_name_line : Bytes → Option ℕ
odd_name_line text = odd_line_from Outside 1 text

-- a note of a program on a line of a file, as digits
abbrev pub note_line : Bytes → Bytes → Bytes → Bytes → Bytes
note_line program file line words = program ++ (codes ": note: " ++ (escaped_text file ++ (codes ":" ++ (line ++ (codes ": " ++ (words ++ codes "\n"))))))
