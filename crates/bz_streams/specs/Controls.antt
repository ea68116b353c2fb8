-- Control characters of a text, and what is printed in their place.
use Rattle.std.specs.Prelude.{ℕ, ◌==◌, ◌/◌, ◌%◌, [], ◌∷◌, ◌++◌, codes, get_or, nat_lt, Bool, false, ◌&&◌, ◌||◌, if◌then◌else◌}
use Rattle.std.specs.Char.{is_ascii_control}
use Rattle.std.specs.Int.{is_in_range}
use Rattle.bz_items.specs.Characters.{Bytes, backslash, carriage_return, line_feed, space, tab}

-- U+0080 to U+009F are two bytes, of which the second is their number; those of ASCII are one.
abbrev pub is_control_pair : ℕ → ℕ → Bool
is_control_pair byte next = byte == 194 && is_in_range 128 159 next

-- the text with what is shown of each control character in its place; all else stays
abbrev pub with_controls : (ℕ → Bytes) → Bytes → Bytes
with_controls shown [] = []
with_controls shown (byte ∷ []) = if is_ascii_control byte then shown byte else byte ∷ []
with_controls shown (byte ∷ next ∷ rest) =
    if is_ascii_control byte then shown byte ++ with_controls shown (next ∷ rest)
    else (if is_control_pair byte next then shown next ++ with_controls shown rest else byte ∷ with_controls shown (next ∷ rest))

abbrev pub has_control : Bytes → Bool
has_control [] = false
has_control (byte ∷ []) = is_ascii_control byte
has_control (byte ∷ next ∷ rest) = is_ascii_control byte || (is_control_pair byte next || has_control (next ∷ rest))

abbrev pub hexadecimal_digits : Bytes
hexadecimal_digits = codes "0123456789abcdef"

-- two digits of a number below 256
abbrev pub hexadecimal : ℕ → Bytes
hexadecimal number = get_or hexadecimal_digits (number / 16) 48 ∷ get_or hexadecimal_digits (number % 16) 48 ∷ []

-- `\n`, `\r`, `\t`, `\x1b` or `\u{9b}`, by the number of the character
abbrev pub escape : ℕ → Bytes
escape number = backslash
    ∷ (if number == line_feed then codes "n"
    else (if number == carriage_return then codes "r"
    else (if number == tab then codes "t"
    else (if nat_lt number 128 then codes "x" ++ hexadecimal number else codes "u{" ++ (hexadecimal number ++ codes "}")))))

-- a text from outside, as it is printed in a line
abbrev pub escaped_text : Bytes → Bytes
escaped_text text = with_controls escape text

-- a line of a text that is read, as it is printed: a space for each of them, so that a caret is at its place
abbrev pub printable : Bytes → Bytes
printable line = with_controls (λ number. space ∷ []) line
