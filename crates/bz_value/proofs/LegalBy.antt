-- Parts that are legal by a grammar: every node has the shape that the grammar gives its kind.
use Rattle.bz_value.proofs.Words.{AllByRecursion, bzl_shape, end_of-Part, Fits, IsNonterminal, items-the_row-Part, Kind, Kind as k, LegalPart, LegalRow, line_shape, List, more_of-Part, Node', Part, Row_of-Part, Shape, subst, sym}
use Rattle.bz_grammar.specs.declared.tree.Node.{Node}
use Rattle.bz_grammar.specs.declared.tree.Part.TheVariants as p
use Rattle.bz_grammar.proofs.Nested.{row_of, items_of_row}
use Rattle.bz_value.proofs.Wider.{IsWider}

module _ (grammar : Kind → Shape) where
  abbrev mutual
    pub LegalBy : Part → Type 0
    LegalBy (p.Leaf l) = Unit {0}
    LegalBy (Node' kind size row) = Fits IsNonterminal (grammar kind) (items-the_row-Part _ row) × LegalRowBy row

    pub LegalRowBy : {m : _} → Row_of-Part m → Type 0
    LegalRowBy end_of-Part = Unit {0}
    LegalRowBy (more_of-Part x rest) = LegalBy x × LegalRowBy rest

  pub row_legal : (m : _) (r : Row_of-Part m) → AllByRecursion LegalBy (items-the_row-Part m r) → LegalRowBy r
  row_legal m end_of-Part h = tt
  row_legal m (more_of-Part x rest) h = (h.0, row_legal _ rest h.1)

  pub each_legal : (m : _) (r : Row_of-Part m) → LegalRowBy r → AllByRecursion LegalBy (items-the_row-Part m r)
  each_legal m end_of-Part h = tt
  each_legal m (more_of-Part x rest) h = (h.0, each_legal _ rest h.1)

  -- a node by its list of parts
  pub node_legal : (n : Node) → Fits IsNonterminal (grammar n.kind) n.parts → AllByRecursion LegalBy n.parts → LegalBy (p.Node n)
  node_legal n h i =
      (subst (Fits IsNonterminal (grammar n.kind)) (sym (items_of_row n)) h, row_legal _ (row_of n).1 (subst (AllByRecursion LegalBy) (sym (items_of_row n)) i))

module _ (narrow wide : Kind → Shape) (wider : IsWider narrow wide) where
  mutual
    pub wider_part : (x : Part) → LegalBy narrow x → LegalBy wide x
    wider_part (p.Leaf l) h = tt
    wider_part (Node' kind size row) h = (wider kind _ h.0, wider_parts _ row h.1)

    wider_parts : (m : _) (r : Row_of-Part m) → LegalRowBy narrow r → LegalRowBy wide r
    wider_parts m end_of-Part h = tt
    wider_parts m (more_of-Part x rest) h = (wider_part x h.0, wider_parts _ rest h.1)

-- ---- lines

bzl_wider : (kind : Kind) (xs : List Part) → Fits IsNonterminal (line_shape kind) xs → Fits IsNonterminal (bzl_shape kind) xs
bzl_wider k.Def xs h = absurd h
bzl_wider k.IfStmt xs h = absurd h
bzl_wider k.ForStmt xs h = absurd h
bzl_wider k.Suite xs h = absurd h
bzl_wider _ xs h = h

mutual
  pub as_bzl : (x : Part) → LegalBy line_shape x → LegalPart x
  as_bzl (p.Leaf l) h = tt
  as_bzl (Node' kind size row) h = (bzl_wider kind _ h.0, as_bzl_row _ row h.1)

  as_bzl_row : (m : _) (r : Row_of-Part m) → LegalRowBy line_shape r → LegalRow r
  as_bzl_row m end_of-Part h = tt
  as_bzl_row m (more_of-Part x rest) h = (as_bzl x h.0, as_bzl_row _ rest h.1)
