-- What the walk over the parts of a file has so far, for private functions: the groups of comment lines before a part are made before
-- it, but for the last one, which is above it.
use Rattle.std.specs.Prelude.{ℕ, Bool, true, ◌≡◌, ◌≤◌, ◌<◌, ◌+◌, List, [], ◌∷◌, ◌++◌, map, drop, length}
use Rattle.bz_hosts.specs.Words.{Part, Node', Expr, Item, GapLine, Bytes}
use Rattle.bz_grammar.specs.declared.tree.Part.TheVariants as p
use Rattle.bz_value.specs.declared.value.Item.TheVariants as i
use Rattle.bz_hosts.specs.Seen.{blocks}
use Rattle.bz_hosts.specs.Suites.{ReadStatements, stated, indented_lines_before}
use Rattle.bz_hosts.specs.SuitesJoined.{lines_at_end}
use Rattle.bz_hosts.specs.View.{items_from}

-- the items of a part with these comments above it, and the lines that are left of those after it
abbrev pub part_read : Part → List Bytes → List GapLine → ReadStatements (List Item)
part_read (p.Leaf l) above after = (blocks (above ∷ []), [])
part_read (Node' kind size row) above after =
    let own : ReadStatements (List Expr) = (stated (Node' kind size row)).statement above after in
    (map i.Stmt own.0, own.1)

-- the same of the first of these parts
abbrev pub first_read : List Bytes → Part → List Part → ReadStatements (List Item)
first_read above x xs = part_read x above (indented_lines_before (map stated xs) [])

-- the items of these parts, where these comments are above the first of them
abbrev pub items_below : List Bytes → List Part → List Item
items_below above [] = []
items_below above (x ∷ xs) = (first_read above x xs).0 ++ items_from (first_read above x xs).1 xs

-- the lines that are left before the last of them
abbrev pub left_below : List Bytes → List Part → List GapLine
left_below above [] = []
left_below above (x ∷ xs) = lines_at_end (first_read above x xs).1 xs

-- A part was made where these comments are above it, and the groups before the next one. spent: of the last part, no line is left before
-- it.
pub record MovesOn (parts : List Part) (at : ℕ) (above next : List Bytes) (spent : Bool) (old new : List Item) : Type 0 where
  pub items : new ++ items_below next (drop (at + 1) parts) ≡ old ++ items_below above (drop at parts)
  pub going : at + 2 < length parts → left_below next (drop (at + 1) parts) ≡ left_below above (drop at parts)
  pub ended : length parts ≤ at + 2 → spent ≡ true → left_below above (drop at parts) ≡ []
