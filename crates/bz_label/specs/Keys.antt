-- The order of keys: by group, then by the pieces between dots and colons, then by the whole text.
use Rattle.std.specs.Prelude.{ℕ, Bool, ◌||◌, ◌==◌, List, [], ◌∷◌, if◌then◌else◌}
use Rattle.std.specs.List.{slice_split}
use Rattle.std.specs.Ordering.{ordering_then, nat_cmp}
use Rattle.std.specs.Cmp.Lexicographic.{slice_cmp}
use Rattle.std.specs.declared.cmp.Ordering.{Ordering}
use Rattle.bz_items.specs.Characters.{Bytes}
use Rattle.bz_label.specs.Pieces.{is_slash, is_colon, is_at}

-- by what a text begins with: others 0, then : 1, then // 2, then @ 3
abbrev pub group_from_slash : Bytes → ℕ
group_from_slash [] = 0
group_from_slash (second ∷ _) = if is_slash second then 2 else 0

abbrev pub group_of : Bytes → ℕ
group_of [] = 0
group_of (first ∷ rest) = if is_colon first then 1
    else (if is_at first then 3 else (if is_slash first then group_from_slash rest else 0))

-- where a key is cut: at every dot and colon
abbrev pub is_cut : ℕ → Bool
is_cut byte = byte == 46 || byte == 58

abbrev pub key_pieces : Bytes → List Bytes
key_pieces = slice_split is_cut

-- by bytes, a beginning before the longer
abbrev pub bytes_order : Bytes → Bytes → Ordering
bytes_order = slice_cmp nat_cmp

-- by group, then piece by piece, then by the bytes of the whole
abbrev pub key_order : Bytes → Bytes → Ordering
key_order first second =
    ordering_then (nat_cmp (group_of first) (group_of second))
    (ordering_then (slice_cmp bytes_order (key_pieces first) (key_pieces second)) (bytes_order first second))
