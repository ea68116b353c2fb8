-- The texts of a history, listed: one line a text, by its digest and the note of the step to it.
use Rattle.std.specs.Prelude.{◌==◌, ◌+◌, ℕ, List, [], ◌∷◌, ◌++◌, map, codes, decimal, Bool, if◌then◌else◌}
use Rattle.std.specs.List.{flat_map}
use Rattle.bz_journal.specs.Words.{Bytes, encode_lower, line_feed, sha256, space}
use Rattle.bz_journal.specs.History.{History}

-- a newline of a note is shown as a backslash and the letter n, so that each text has one line
abbrev pub shown_byte : ℕ → Bytes
shown_byte byte = if byte == line_feed then codes "\\n" else byte ∷ []

-- a space and the note, where there is one
abbrev pub noted : Bytes → Bytes
noted [] = []
noted (first ∷ rest) = space ∷ flat_map shown_byte (first ∷ rest)

-- a star at the present text or a space, a space, the number of the text, a space, its digest, and the note of the step to it
abbrev pub text_line : Bool → ℕ → Bytes → Bytes → Bytes
text_line present number digest note =
    (if present then codes "* " else codes "  ") ++ (decimal number ++ space ∷ []) ++ encode_lower digest ++ noted note ++ line_feed ∷ []

-- the lines of the texts from a number on, by the notes of the steps to them and by their digests
abbrev pub text_lines_from : ℕ → ℕ → List Bytes → List Bytes → Bytes
text_lines_from cursor number [] digests = []
text_lines_from cursor number (note ∷ notes) [] = []
text_lines_from cursor number (note ∷ notes) (digest ∷ digests) = text_line (number == cursor) number digest note ++ text_lines_from cursor (number + 1) notes digests

-- No step leads to the first text.
abbrev pub lines_of_texts : ℕ → List Bytes → List Bytes → Bytes
lines_of_texts cursor notes [] = []
lines_of_texts cursor notes (digest ∷ digests) = text_line (0 == cursor) 0 digest [] ++ text_lines_from cursor 1 notes digests

abbrev pub listing : History → Bytes
listing h = lines_of_texts h.cursor h.notes (map sha256 h.texts)
