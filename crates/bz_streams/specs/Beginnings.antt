-- What is at a place of a line, in words, by the first bytes there.
use Rattle.std.specs.Prelude.{ℕ, ◌==◌, ◌-◌, ◌++◌, [], ◌∷◌, length, take, take_while, codes, get_or, nat_le, Bool, ◌&&◌, ◌||◌, if◌then◌else◌}
use Rattle.std.specs.List.{list_any}
use Rattle.std.specs.Char.{is_ascii_alphanumeric, is_ascii_control, is_ascii_digit}
use Rattle.bz_items.specs.Characters.{Bytes, apostrophe, equals_sign, number_sign, quotation_mark}
use Rattle.bz_lex.specs.Positions.{is_continuation}

-- the text from the character on that has this many before it
abbrev pub from_character : ℕ → Bytes → Bytes
from_character count [] = []
from_character count (byte ∷ rest) =
    if is_continuation byte then from_character count rest else (if count == 0 then byte ∷ rest else from_character (count - 1) rest)

abbrev pub is_quotation_mark : ℕ → Bool
is_quotation_mark byte = byte == quotation_mark || byte == apostrophe

-- `r` and `b`, alone or both, may be before the quotation mark of a string.
abbrev pub prefix_length : ℕ → ℕ → ℕ
prefix_length first second =
    if (first == 114 && second == 98) || (first == 98 && second == 114) then 2 else (if first == 114 || first == 98 then 1 else 0)

abbrev pub opens_text : Bytes → Bool
opens_text text = is_quotation_mark (get_or text (prefix_length (get_or text 0 0) (get_or text 1 0)) 0)

-- U+0080 and on are letters.
abbrev pub is_beyond_ascii : ℕ → Bool
is_beyond_ascii byte = nat_le 128 byte

abbrev pub is_word_byte : ℕ → Bool
is_word_byte byte = is_ascii_alphanumeric byte || (byte == 95 || is_beyond_ascii byte)

-- a word by its first 40 bytes, where all is ASCII
abbrev pub word_beginning : Bytes → Bytes
word_beginning word = if list_any is_beyond_ascii word then codes "a word" else codes "the word '" ++ (take 40 word ++ codes "'")

-- Of marks of two bytes or three the second is `=`, or the first one again.
abbrev pub is_doubled : ℕ → ℕ → Bool
is_doubled first second = second == first && list_any (λ other. other == first) (codes "*/<>")

abbrev pub mark_length : ℕ → ℕ → ℕ → ℕ
mark_length first second third =
    if is_doubled first second then (if third == equals_sign then 3 else 2)
    else (if second == equals_sign && list_any (λ other. other == first) (codes "=!<>+-*/%&|^") then 2 else 1)

abbrev pub text_beginning : Bytes → ℕ → Bytes
text_beginning text first =
    if opens_text text then codes "a string"
    else (if first == number_sign then codes "a comment"
    else (if is_ascii_digit first then codes "a number"
    else (if is_word_byte first then word_beginning (take_while is_word_byte text)
    else (if is_ascii_control first then codes "a control character" else codes "'" ++ (take (mark_length first (get_or text 1 0) (get_or text 2 0)) text ++ codes "'")))))

-- what this rest of a line begins with; the flag: the line is the last one
abbrev pub beginning : Bytes → Bool → Bytes
beginning text last =
    if length text == 0 then (if last then codes "the end of the file" else codes "the end of the line") else text_beginning text (get_or text 0 0)
