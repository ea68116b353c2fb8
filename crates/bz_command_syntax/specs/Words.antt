-- The words of a text: runs of spaces separate them; a space right after a backslash belongs to the word and the backslash
-- goes; other backslashes stay.
use Rattle.std.specs.Prelude.{◌==◌, List, [], ◌∷◌, ◌++◌, filter, Bool, true, false, if◌then◌else◌, ◌&&◌, not}
use Rattle.std.specs.List.{onto_first}
use Rattle.bz_items.specs.Characters.{Bytes, backslash, space}

abbrev pub begins_with_space : Bytes → Bool
begins_with_space [] = false
begins_with_space (byte ∷ rest) = byte == space

-- The pieces between the spaces that have no backslash right before them, without each backslash right before a space. The flag: a
-- backslash is right before the text.
abbrev pub pieces : Bool → Bytes → List Bytes
pieces after_backslash [] = [] ∷ []
pieces after_backslash (byte ∷ rest) =
    if byte == space && not after_backslash then [] ∷ pieces (byte == backslash) rest
    else (if byte == backslash && begins_with_space rest then pieces (byte == backslash) rest else onto_first byte (pieces (byte == backslash) rest))

-- whether something is there
abbrev pub is_nonempty : {A : Type 0} → List A → Bool
is_nonempty [] = false
is_nonempty (_ ∷ _) = true

-- between two spaces of a run, and at an end of the text, is no word
abbrev pub words_of : Bytes → List Bytes
words_of text = filter is_nonempty (pieces false text)

-- the first piece goes after what is there of it
abbrev pub after_word : Bytes → List Bytes → List Bytes
after_word word [] = word ∷ []
after_word word (piece ∷ more) = (word ++ piece) ∷ more

-- the words of a text, whose first goes after what is there of it
unfoldable pub words_after : Bytes → Bool → Bytes → List Bytes
words_after word after_backslash text = filter is_nonempty (after_word word (pieces after_backslash text))
