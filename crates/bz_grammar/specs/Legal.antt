-- Legal trees, and what a text reads as.
use Rattle.std.specs.Prelude.{◌≡◌, ℕ, ◌≤◌, ◌<◌, true, List, [], length}
use Rattle.std.specs.List.{AllByRecursion}
use Rattle.bz_lex.specs.declared.leaf.Leaf.{Leaf}
use Rattle.bz_lex.specs.Leaves.{AreCoded}
use Rattle.bz_grammar.specs.declared.kind.Kind.TheVariants as k
use Rattle.bz_grammar.specs.declared.tree.Node.{Node}
use Rattle.bz_grammar.specs.declared.tree.Part.{Part, Row_of-Part, end_of-Part, more_of-Part, Node', items-the_row-Part}
use Rattle.bz_grammar.specs.declared.tree.Part as p
use Rattle.bz_grammar.specs.Spell.{spell_node, leaves_of, depth_of, limit, depth_limit}
use Rattle.bz_grammar.specs.Shapes.{Nonterminal, has_nonterminal, Fits, bzl_shape}
use Rattle.bz_grammar.specs.Kinds.{kind_number}
use Rattle.bz_grammar.specs.Indents.{AreIndented}
use Rattle.bz_grammar.specs.Spots.{Begins, AtParts, Stands, AreTokens}

abbrev pub IsNonterminal : Nonterminal → Part → Type 0
IsNonterminal nonterminal part = has_nonterminal nonterminal part ≡ true

-- Every node in the part has the shape of its kind.
abbrev mutual
  pub LegalPart : Part → Type 0
  LegalPart (p.Leaf l) = Unit {0}
  LegalPart (Node' k s r) = Fits IsNonterminal (bzl_shape k) (items-the_row-Part _ r) × LegalRow r

  pub LegalRow : {m : _} → Row_of-Part m → Type 0
  LegalRow end_of-Part = Unit {0}
  LegalRow (more_of-Part x rest) = LegalPart x × LegalRow rest

-- The node has the shape of its kind, and so has every node inside it.
abbrev pub LegalShapes : Node → Type 0
LegalShapes n = Fits IsNonterminal (bzl_shape n.kind) n.parts × AllByRecursion LegalPart n.parts

-- A file by its shapes: the root is a File, and every node has the shape of its kind.
pub record IsFile (n : Node) : Type 0 where
  pub root : n.kind ≡ k.File
  pub shapes : LegalShapes n

-- A file of these leaves whose statements have their indents, no deeper than the limit of depth.
pub record IsFileOf (leaves_there : List Leaf) (n : Node) : Type 0 where
  pub file : IsFile n
  pub indents : AreIndented [] n.parts
  pub leaves : leaves_of n ≡ leaves_there
  pub depth : depth_of n ≤ depth_limit

-- A tree is legal where it is a file by its shapes, its gaps are where they may be, its statements have the
-- indents of their suites (those of the file have none), its tokens are the longest lexemes of its spelling, gaps and
-- tokens are texts of characters, and it is no deeper than the limit of depth.
pub record Legal (n : Node) : Type 0 where
  pub file : IsFile n
  pub gaps : AtParts Stands Begins Begins n.parts
  pub indents : AreIndented [] n.parts
  pub tokens : AreTokens (leaves_of n)
  pub coded : AreCoded (leaves_of n)
  pub depth : depth_of n ≤ depth_limit

-- Such a part may be in a BUILD file: none of its nodes is of a kind from Def on.
abbrev mutual
  pub IsBuildPart : Part → Type 0
  IsBuildPart (p.Leaf l) = Unit {0}
  IsBuildPart (Node' kind size row) = (kind_number kind < kind_number k.Def) × IsBuildRow row

  pub IsBuildRow : {m : _} → Row_of-Part m → Type 0
  IsBuildRow end_of-Part = Unit {0}
  IsBuildRow (more_of-Part x rest) = IsBuildPart x × IsBuildRow rest

abbrev pub IsBuild : Node → Type 0
IsBuild n = AllByRecursion IsBuildPart n.parts

-- A legal tree of a BUILD file: of it the indents say that no line begins after a space or a tab.
pub record LegalBuild (n : Node) : Type 0 where
  pub legal : Legal n
  pub build : IsBuild n

-- ---- texts

-- The text of a BUILD file reads as a tree: the tree is legal and one of a BUILD file, spells the text, and the text is no longer than the limit.
abbrev pub Reads : List ℕ → Node → Type 0
Reads s n = LegalBuild n × (spell_node n ≡ s) × (length s ≤ limit)

-- The same of the text of a .bzl file.
abbrev pub ReadsBzl : List ℕ → Node → Type 0
ReadsBzl s n = Legal n × (spell_node n ≡ s) × (length s ≤ limit)

-- A text is accepted where it reads as some tree.
abbrev pub Accepted : List ℕ → Type 0
Accepted s = (n : Node) × Reads s n

-- No tree is read of the text.
abbrev pub NoTree : List ℕ → Type 0
NoTree s = (n : Node) → Reads s n → ⊥

abbrev pub NoBzlTree : List ℕ → Type 0
NoBzlTree s = (n : Node) → ReadsBzl s n → ⊥
