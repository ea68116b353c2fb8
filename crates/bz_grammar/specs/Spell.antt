-- What a tree is a tree of: its spelling, its leaves, and how deep it is.
use Rattle.std.specs.Prelude.{ℕ, suc, max, nat_le, if◌then◌else◌, Option, Some, None, List, [], ◌∷◌, ◌++◌}
use Rattle.std.specs.List.{flat_map}
use Rattle.bz_lex.specs.declared.leaf.Leaf.{Leaf}
use Rattle.bz_grammar.specs.declared.tree.Node.{Node}
use Rattle.bz_grammar.specs.declared.tree.Part.{Part, Row_of-Part, end_of-Part, more_of-Part, Node'}
use Rattle.bz_grammar.specs.declared.tree.Part as p

-- the text of a leaf: the gap, and the token after it
abbrev pub spell_leaf : Leaf → List ℕ
spell_leaf l = l.gap ++ l.token

-- The spelling of a tree: gap and token of every leaf, in order, joined.
abbrev mutual
  pub spell_part : Part → List ℕ
  spell_part (p.Leaf l) = spell_leaf l
  spell_part (Node' k s r) = spell_row r

  pub spell_row : {m : _} → Row_of-Part m → List ℕ
  spell_row end_of-Part = []
  spell_row (more_of-Part x rest) = spell_part x ++ spell_row rest

abbrev pub spell_node : Node → List ℕ
spell_node n = flat_map spell_part n.parts

-- The leaves of a tree, in order.
abbrev mutual
  pub leaves_part : Part → List Leaf
  leaves_part (p.Leaf l) = l ∷ []
  leaves_part (Node' k s r) = leaves_row r

  pub leaves_row : {m : _} → Row_of-Part m → List Leaf
  leaves_row end_of-Part = []
  leaves_row (more_of-Part x rest) = leaves_part x ++ leaves_row rest

abbrev pub leaves_of : Node → List Leaf
leaves_of n = flat_map leaves_part n.parts

-- Depth: a node is one deeper than the deepest node inside it, and leaves add nothing (so a File of leaves has depth 1).
abbrev mutual
  pub depth_part : Part → ℕ
  depth_part (p.Leaf l) = 0
  depth_part (Node' k s r) = suc (depth_row r)

  pub depth_row : {m : _} → Row_of-Part m → ℕ
  depth_row end_of-Part = 0
  depth_row (more_of-Part x rest) = max (depth_part x) (depth_row rest)

-- the depth of the deepest of these parts
abbrev pub deepest : List Part → ℕ
deepest [] = 0
deepest (x ∷ xs) = max (depth_part x) (deepest xs)

abbrev pub depth_of : Node → ℕ
depth_of n = suc (deepest n.parts)

-- the most bytes that an accepted text has
abbrev pub limit : ℕ
limit = 67108864

-- this number of bytes, where a text may have as many
abbrev pub within_limit : ℕ → Option ℕ
within_limit n = if nat_le n limit then Some n else None

-- the most nodes that are inside each other in an accepted tree
abbrev pub depth_limit : ℕ
depth_limit = 500
