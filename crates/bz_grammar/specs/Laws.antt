-- Laws of legal trees.
use Rattle.std.specs.Prelude.{◌≡◌, ◌≤◌, ◌↔◌, ℕ, Some, List, [], map}
use Rattle.bz_lex.specs.Leaves.{AreLeaves, AreCoded}
use Rattle.bz_grammar.specs.declared.kind.Kind.{Kind}
use Rattle.bz_grammar.specs.declared.tree.Node.{Node}
use Rattle.bz_grammar.specs.Kinds.{kind_number, kind_of}
use Rattle.bz_grammar.specs.Spell.{spell_node, leaves_of, depth_of, depth_limit}
use Rattle.bz_grammar.specs.Spots.{Begins, AtParts, Stands, AreTokens}
use Rattle.bz_grammar.specs.Indents.{AreIndented}
use Rattle.bz_grammar.specs.Statements.{statements, begins_on, lines_of}
use Rattle.bz_grammar.specs.Legal.{IsFile, Legal, Reads, ReadsBzl}

-- trees that spell the same are the same
abbrev pub OneTree : Node → Node → Type 0
OneTree tree other = spell_node tree ≡ spell_node other → tree ≡ other

-- no text reads as two trees
abbrev pub OneReading : Type 0
OneReading = (text : List ℕ) (tree other : Node) → Reads text tree → Reads text other → tree ≡ other

abbrev pub OneBzlReading : Type 0
OneBzlReading = (text : List ℕ) (tree other : Node) → ReadsBzl text tree → ReadsBzl text other → tree ≡ other

-- equal leaves have one shape: no leaves are those of two files whose statements have their indents
abbrev pub OneFile : Type 0
OneFile = (m n : Node) → IsFile m → IsFile n → AreIndented [] m.parts → AreIndented [] n.parts → leaves_of m ≡ leaves_of n → m ≡ n

-- The gaps of a file by its shapes are where the nodes let them be, and its tokens are those of its spelling, exactly where
-- its leaves, in a row, are placed as the leaves of a text are.
abbrev pub GapsByNodes : Type 0
GapsByNodes = (n : Node) → IsFile n → (AtParts Stands Begins Begins n.parts × AreTokens (leaves_of n)) ↔ AreLeaves (leaves_of n)

-- A legal tree by its leaves: a file by its shapes, within the limit of depth, with its indents, whose
-- leaves, in a row, are placed as the leaves of a text are, and are texts of characters.
pub record IsLegalByLeaves (n : Node) : Type 0 where
  pub file : IsFile n
  pub indents : AreIndented [] n.parts
  pub leaves : AreLeaves (leaves_of n)
  pub coded : AreCoded (leaves_of n)
  pub depth : depth_of n ≤ depth_limit

-- legal by nodes is legal by leaves
abbrev pub LegalByNodes : Type 0
LegalByNodes = (n : Node) → Legal n ↔ IsLegalByLeaves n

-- the kind of the number of a kind is that kind
abbrev pub KindOfNumber : Type 0
KindOfNumber = (kind : Kind) → kind_of (kind_number kind) ≡ Some kind

-- The lines of a legal tree are those of all its nodes that are statements, as many and in their order: no expression, parameter or other
-- part of a header has one inside, and none is anywhere else.
abbrev pub EachStatementHasALine : Type 0
EachStatementHasALine = (n : Node) → Legal n → lines_of n ≡ map begins_on (statements [] n.parts)
