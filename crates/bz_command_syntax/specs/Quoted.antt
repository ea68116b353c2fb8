-- Words as strings.
use Rattle.std.specs.Prelude.{ℕ, ◌==◌, Bool, ◌||◌, [], ◌∷◌, ◌++◌, if◌then◌else◌}
use Rattle.std.specs.List.{flat_map}
use Rattle.bz_items.specs.Characters.{Bytes, backslash, letter_n, line_feed, quotation_mark}

-- a quotation mark, a backslash or a newline, which cannot be in a string by itself
abbrev pub is_escaped : ℕ → Bool
is_escaped byte = byte == line_feed || (byte == quotation_mark || byte == backslash)

-- a backslash before each quotation mark and each backslash; a newline is a backslash and n
abbrev pub escaped : ℕ → Bytes
escaped byte =
    if byte == line_feed then backslash ∷ letter_n ∷ []
    else (if byte == quotation_mark || byte == backslash then backslash ∷ byte ∷ [] else byte ∷ [])

-- the word between quotation marks
abbrev pub quoted_of : Bytes → Bytes
quoted_of word = quotation_mark ∷ flat_map escaped word ++ quotation_mark ∷ []
