-- Indents: which spaces and tabs are right before the first token of a statement, and before elif and else.
use Rattle.std.specs.Prelude.{◌≡◌, ℕ, true, List, ◌∷◌, ◌++◌, [], codes}
use Rattle.std.specs.List.{AllByRecursion}
use Rattle.bz_lex.specs.declared.leaf.Leaf.{Leaf}
use Rattle.bz_lex.specs.Gaps.{indent}
use Rattle.bz_grammar.specs.declared.kind.Kind.TheVariants as k
use Rattle.bz_grammar.specs.declared.tree.Part.{Part, Row_of-Part, end_of-Part, more_of-Part, Node'}
use Rattle.bz_grammar.specs.declared.tree.Part as p
use Rattle.bz_grammar.specs.Spell.{leaves_row}
use Rattle.bz_grammar.specs.Shapes.{Terminal, keyword_terminals, is_one_of}

-- elif and else, with which a statement goes on
abbrev pub alternatives : List Terminal
alternatives = keyword_terminals (codes "elif" ∷ codes "else" ∷ [])

-- the indent of the first of these leaves
abbrev pub first_indent : List Leaf → List ℕ
first_indent [] = []
first_indent (leaf ∷ leaves) = indent leaf.gap

-- A statement is at an indent; its elif and else have the same one; the statements of a suite in it have one indent,
-- which is this one followed by at least one character. A Line that is a suite has no rule of indent.
abbrev mutual
  pub Indented : List ℕ → Part → Type 0
  Indented i (p.Leaf leaf) = Unit {0}
  Indented i (Node' kind size row) = (first_indent (leaves_row row) ≡ i) × Owner i row

  -- what is in a statement at this indent
  pub Owner : List ℕ → {m : _} → Row_of-Part m → Type 0
  Owner i end_of-Part = Unit {0}
  Owner i (more_of-Part x rest) = Owned i x × Owner i rest

  pub Owned : List ℕ → Part → Type 0
  Owned i (p.Leaf leaf) = is_one_of alternatives leaf ≡ true → indent leaf.gap ≡ i
  Owned i (Node' k.Suite size row) = (c : ℕ) × (more : List ℕ) × AllIndented (i ++ c ∷ more) row
  Owned i (Node' _ size row) = Unit {0}

  -- each of these statements is at this indent
  pub AllIndented : List ℕ → {m : _} → Row_of-Part m → Type 0
  AllIndented i end_of-Part = Unit {0}
  AllIndented i (more_of-Part x rest) = Indented i x × AllIndented i rest

-- the same of the statements of a list
abbrev pub AreIndented : List ℕ → List Part → Type 0
AreIndented i = AllByRecursion (Indented i)
