-- A text of ASCII has no name with another character.
use Rattle.bz_streams.proofs.Imported.{[], ◌+◌, ◌∷◌, ◌≡◌, Bytes, false, if◌then◌else◌, is_beyond_ascii, is_newline, is_outside, list_any, None, odd_line_from, odd_name_line, or_parts, refl, sym, within_after, ℕ}
use Rattle.bz_streams.specs.{declared.brackets.Within.Within, declared.brackets.Within.TheVariants.Outside}

none_from : (within : Within) (line : ℕ) (text : Bytes) → list_any is_beyond_ascii text ≡ false → odd_line_from within line text ≡ None
none_from within line [] h = refl
none_from within line (byte ∷ rest) h =
    rw (or_parts (is_beyond_ascii byte) (list_any is_beyond_ascii rest) h).0
    (none_from (within_after within byte) (if is_newline byte then line + 1 else line) rest (or_parts (is_beyond_ascii byte) (list_any is_beyond_ascii rest) h).1)

pub none_of_ascii : (text : Bytes) → list_any is_beyond_ascii text ≡ false → None ≡ odd_name_line text
none_of_ascii text h = sym (none_from Outside 1 text h)
