-- The outline of a node: bytes that say all of it. Two nodes with one outline are equal, so a node can be dropped, and another one
-- compared with it later.
use Rattle.std.specs.Prelude.{ℕ, List, [], ◌∷◌, ◌++◌}
use Rattle.std.specs.List.{flat_map}
use Rattle.bz_resume.specs.Words.{class_number, Leaf, Node, Part, Row_of-Part, end_of-Part, more_of-Part, Node', kind_number}
use Rattle.bz_grammar.specs.declared.tree.Part as p

-- a list: a 1 before what says an item, and a 0 after the last; and a text, by its bytes
abbrev pub outline_list : {A : Type 0} → (A → List ℕ) → List A → List ℕ
outline_list say xs = flat_map (λ x. 1 ∷ say x) xs ++ 0 ∷ []

abbrev pub marked : List ℕ → List ℕ
marked s = outline_list (λ b. b ∷ []) s

-- a 1, the class, the gap and the token
abbrev pub outline_leaf : Leaf → List ℕ
outline_leaf l = (1 ∷ class_number l.class ∷ []) ++ marked l.gap ++ marked l.token

-- of a node a 2, the kind, and its parts
abbrev mutual
  pub outline_part : Part → List ℕ
  outline_part (p.Leaf l) = outline_leaf l
  outline_part (Node' k s r) = (2 ∷ kind_number k ∷ []) ++ (outline_row r ++ 0 ∷ [])

  pub outline_row : {m : _} → Row_of-Part m → List ℕ
  outline_row end_of-Part = []
  outline_row (more_of-Part x rest) = (1 ∷ outline_part x) ++ outline_row rest

abbrev pub outline_node : Node → List ℕ
outline_node n = (2 ∷ kind_number n.kind ∷ []) ++ outline_list outline_part n.parts
