-- The parts of labels and targets. Texts are lists of bytes, so a character from U+0080 on is bytes from 128 on.
use Rattle.std.specs.Prelude.{◌≡◌, ℕ, Bool, true, false, not, ◌==◌, List, [], ◌∷◌, ◌++◌, codes}
use Rattle.bz_items.specs.Characters.{Bytes}
use Rattle.std.specs.List.{slice_split, list_all, list_any, after_last}

abbrev pub is_empty : Bytes → Bool
is_empty [] = true
is_empty (_ ∷ _) = false

abbrev pub is_present : Bytes → Bool
is_present text = not (is_empty text)

abbrev pub is_slash : ℕ → Bool
is_slash byte = byte == 47

abbrev pub is_colon : ℕ → Bool
is_colon byte = byte == 58

abbrev pub is_at : ℕ → Bool
is_at byte = byte == 64

abbrev pub has_slash : Bytes → Bool
has_slash = list_any is_slash

abbrev pub has_colon : Bytes → Bool
has_colon = list_any is_colon

abbrev pub begins_with_at : Bytes → Bool
begins_with_at [] = false
begins_with_at (first ∷ _) = is_at first

-- the pieces of a path: a/b/c is a, b and c
abbrev pub pieces_of : Bytes → List Bytes
pieces_of = slice_split is_slash

-- the last piece: of a/b it is b, of a it is a
abbrev pub last_piece : Bytes → Bytes
last_piece = after_last is_slash

-- non-empty pieces joined by slashes
abbrev pub is_joined : Bytes → Bool
is_joined path = list_all is_present (pieces_of path)

-- the same, said without pieces; a law shows that it is the same
pub record IsSlashSeparated (path : Bytes) : Type 0 where
  pub present : path ≡ [] → ⊥
  pub begins : (rest : Bytes) → path ≡ codes "/" ++ rest → ⊥
  pub ends : (front : Bytes) → path ≡ front ++ codes "/" → ⊥
  pub single : (front rest : Bytes) → path ≡ front ++ codes "//" ++ rest → ⊥
