-- A part as if `Node` held a plain list of parts: induction, and how a function by rows goes at `Node`.
use Rattle.bz_grammar.proofs.Words.{[], ◌∷◌, ◌≡◌, ◌⊎◌, AllByRecursion, end_of-Part, inl, inr, items-the_row-Part, items_hidden-the_row-Part-0, Leaf, List, map, Node, Part, refl, Row_of-Part, subst, sym}
use mathlib.Core.Former.{Count}
use Rattle.bz_grammar.specs.declared.tree.Part.TheVariants as p
use Rattle.bz_grammar.specs.declared.tree.Part.TheOpen as o
use Rattle.bz_grammar.specs.declared.tree.Part.TheViews as v
use Rattle.bz_grammar.specs.declared.tree.Part.TheFolds.{ind-Part, map-Part}

abbrev row_in : Part → (m : Count) × Row_of-Part m
row_in (p.Node' k s r) = (_, r)
row_in (p.Leaf l) = (_, end_of-Part)

-- the row of the parts of a node
abbrev pub row_of : Node → (m : Count) × Row_of-Part m
row_of n = row_in (p.Node n)

pub items_of_row : (n : Node) → items-the_row-Part (row_of n).0 (row_of n).1 ≡ n.parts
items_of_row n = items_hidden-the_row-Part-0 n.parts

module _ (P : Part → Type 0) (leaf : (l : Leaf) → P (p.Leaf l)) (node : (n : Node) → AllByRecursion P n.parts → P (p.Node n)) where
  abbrev Q : Node → Type 0
  Q n = AllByRecursion P n.parts

  each_such : (ys : List ((x : Part) × P x)) → AllByRecursion P (map (λ e. e.0) ys)
  each_such [] = tt
  each_such (y ∷ ys) = (y.1, each_such ys)

  at_open : (y : o.Part-F ((x : Part) × P x) ((n : Node) × Q n)) → P (v.roll-Part (map-Part _ _ _ _ (λ e. e.0) (λ e. e.0) y))
  at_open (o.Leaf l) = subst P (sym (p.rolls-Leaf l)) (leaf l)
  at_open (o.Node e) = subst P (sym (p.rolls-Node e.0)) (node e.0 e.1)

  pub part_ind : (x : Part) → P x
  part_ind = ind-Part P Q (λ x y is. subst (λ z. P (v.roll-Part z)) is (at_open y)) (λ x y is. subst (λ z. AllByRecursion P z.parts) is (each_such y.parts))

-- a part is a leaf or a node
pub leaf_or_node : (x : Part) → ((l : Leaf) × (x ≡ p.Leaf l)) ⊎ ((n : Node) × (x ≡ p.Node n))
leaf_or_node = part_ind (λ x. ((l : Leaf) × (x ≡ p.Leaf l)) ⊎ ((n : Node) × (x ≡ p.Node n))) (λ l. inl (l, refl)) (λ n h. inr (n, refl))
