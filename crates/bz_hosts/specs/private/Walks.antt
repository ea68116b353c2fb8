-- What the walk over a tree has so far, for private functions.
use Rattle.std.specs.Prelude.{Bool, not, nat_eq, List, [], ◌∷◌, ◌++◌}
use Rattle.std.specs.List.{list_all}
use Rattle.bz_hosts.specs.Words.{Bytes, number_sign, others_in, all_in}
use Rattle.bz_hosts.specs.Seen.{Seen}

-- After an item, from its mark on: the gap that its suffix is in, and what is above the next item.
abbrev pub item_gap : List Seen → Bytes
item_gap [] = []
item_gap (mark ∷ []) = mark.gap
item_gap (mark ∷ t ∷ ss) = t.gap

abbrev pub above_after : List Seen → List Bytes
above_after [] = []
above_after (mark ∷ []) = others_in mark.gap
above_after (mark ∷ t ∷ ss) = all_in mark.gap ++ others_in t.gap

-- no number sign is in the gap
abbrev pub is_unsigned : Bytes → Bool
is_unsigned gap = list_all (λ byte. not (nat_eq byte number_sign)) gap

-- After a statement of a line, from its mark on: the gap that its suffix is in; of another than the last none.
abbrev pub line_gap : List Seen → Bytes
line_gap [] = []
line_gap (mark ∷ []) = mark.gap
line_gap (mark ∷ t ∷ []) = t.gap
line_gap (mark ∷ t ∷ u ∷ ss) = []

-- comment lines in front of groups belong to the first of them
abbrev pub prepend : List Bytes → List (List Bytes) → List (List Bytes)
prepend lines [] = lines ∷ []
prepend lines (group ∷ groups) = (lines ++ group) ∷ groups
