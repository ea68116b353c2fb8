-- The text of a label without a repeated name, as a function. `IsUnrepeated` says what it is to be.
use Rattle.std.specs.Prelude.{ℕ, Bool, ◌&&◌, [], ◌∷◌, ◌++◌, ◌+◌, if◌then◌else◌, drop, length, bytes_eq, codes}
use Rattle.bz_items.specs.Characters.{Bytes}
use Rattle.bz_label.specs.Pieces.{is_slash, is_colon, last_piece}
use Rattle.bz_label.specs.Forms.{are_whole}

-- what is before the first colon, and after it
abbrev pub before_colon : Bytes → Bytes
before_colon [] = []
before_colon (c ∷ s) = if is_colon c then [] else c ∷ before_colon s

abbrev pub after_colon : Bytes → Bytes
after_colon [] = []
after_colon (c ∷ s) = if is_colon c then s else after_colon s

-- what is before the first two slashes, and after them
abbrev mutual
  pub before_slashes : Bytes → Bytes
  before_slashes [] = []
  before_slashes (c ∷ s) = before_slashes_from c s

  pub before_slashes_from : ℕ → Bytes → Bytes
  before_slashes_from c [] = c ∷ []
  before_slashes_from c (d ∷ s) = if is_slash c && is_slash d then [] else c ∷ before_slashes_from d s

abbrev pub after_slashes : Bytes → Bytes
after_slashes s = drop (length (before_slashes s) + 2) s

-- ..//p/x and x
abbrev pub is_repeated : Bytes → Bytes → Bool
is_repeated front name =
    are_whole (before_slashes front) (after_slashes front) name
    && bytes_eq (last_piece (after_slashes front)) name
    && bytes_eq front (before_slashes front ++ (codes "//" ++ after_slashes front))

-- ..//p/x:x becomes ..//p/x, and ..//x:x becomes ..//x; any other text stays.
abbrev pub unrepeated : Bytes → Bytes
unrepeated s = if is_repeated (before_colon s) (after_colon s) then before_colon s else s
