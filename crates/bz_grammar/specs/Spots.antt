-- Where newlines, comments and indents may be in a tree, said on its nodes: the spot at which each token is, and
-- what may be in the gap before a token at a spot.
use Rattle.std.specs.Prelude.{◌≡◌, ◌⊎◌, ℕ, Bool, true, false, List, [], ◌∷◌, if◌then◌else◌}
use Rattle.bz_items.specs.Characters.{line_feed}
use Rattle.bz_token.specs.declared.class.Class.{Class}
use Rattle.bz_token.specs.declared.class.Class.TheVariants as c
use Rattle.bz_token.specs.Tokens.{IsToken}
use Rattle.bz_lex.specs.declared.leaf.Leaf.{Leaf}
use Rattle.bz_lex.specs.Gaps.{IsGap}
use Rattle.bz_lex.specs.Places.{is_opening, is_closing}
use Rattle.bz_lex.specs.Leaves.{spell_leaves}
use Rattle.bz_grammar.specs.declared.kind.Kind.{Kind}
use Rattle.bz_grammar.specs.declared.kind.Kind.TheVariants as k
use Rattle.bz_grammar.specs.declared.tree.Part.{Part, Row_of-Part, end_of-Part, more_of-Part, Node'}
use Rattle.bz_grammar.specs.declared.tree.Part as p

-- The spot of a token: it begins a line (the end of the text does so too), it is within brackets, or it is
-- along a line, after its first token. The spot of a node is that of its first token.
pub data Spot : Type 0 where
  Begins Within Along : Spot

-- further on in the same line, or within the same brackets
abbrev pub onward : Spot → Spot
onward Within = Within
onward _ = Along

-- The role of a token for what is after it: it opens brackets, closes them, ends the line, or none of these.
pub data Role : Type 0 where
  opens closes ends plain : Role

abbrev pub role : Class → List ℕ → Role
role c.Mark token = if is_opening token then opens else (if is_closing token then closes else plain)
role c.Newline token = ends
role c.End token = ends
role _ token = plain

-- The spot after a token at the spot `here`, which is a part of a node at the spot `outer`. A node that opens brackets
-- closes them itself (its kind's shape says so): what is between them is within brackets, and after them it goes on
-- as it would after any token of the line or of the brackets in which the node is.
abbrev pub following_token : Role → Spot → Spot → Spot
following_token opens outer here = Within
following_token closes outer here = onward outer
following_token ends outer here = Begins
following_token plain outer here = onward here

-- The spot after a node at a spot: after a Line, which holds its newline, the next line begins; and so after what ends
-- with a Line.
abbrev pub after_node : Kind → Spot → Spot
after_node k.Line here = Begins
after_node k.Def here = Begins
after_node k.IfStmt here = Begins
after_node k.ForStmt here = Begins
after_node k.Suite here = Begins
after_node _ here = onward here

-- the spot after a part at the spot `here`, of a node at the spot `outer`
abbrev pub after_part : Spot → Spot → Part → Spot
after_part outer here (p.Leaf leaf) = following_token (role leaf.class leaf.token) outer here
after_part outer here (Node' kind size row) = after_node kind here

-- P holds of each leaf and of the spot at which it is.
module _ (P : Spot → Leaf → Type 0) where
  abbrev mutual
    -- in a part at a spot
    pub AtLeaves : Spot → Part → Type 0
    AtLeaves here (p.Leaf leaf) = P here leaf
    AtLeaves here (Node' kind size row) = AtRow here here row

    -- in the parts from the spot `here` on, of a node at the spot `outer`
    pub AtRow : Spot → Spot → {m : _} → Row_of-Part m → Type 0
    AtRow outer here end_of-Part = Unit {0}
    AtRow outer here (more_of-Part x rest) = AtLeaves here x × AtRow outer (after_part outer here x) rest

  -- the same of parts in a list
  abbrev pub AtParts : Spot → Spot → List Part → Type 0
  AtParts outer here [] = Unit {0}
  AtParts outer here (x ∷ xs) = AtLeaves here x × AtParts outer (after_part outer here x) xs

-- Which gap may be before a token of a class at a spot. (IsGap newlines unclosed: whether unescaped newlines may be in the gap, and
-- whether it may end in a comment whose newline is after it.)
-- An unescaped newline is in a gap only within brackets, before the first token of a line, or before the end; a comment is there too and
-- in the gap of a newline, and its newline is in the same gap, but for the last comment in the gap of a newline or of the end. A newline is
-- only along a line, and the end only where a line may begin. Of the byte before the first token of a line nothing is said here: Indents
-- says how far statements are indented. (A line that is a suite is along the line of its owner.)
abbrev pub GapStands : Class → Spot → List ℕ → Type 0
GapStands c.Newline Along gap = (unclosed : Bool) × IsGap false unclosed gap
GapStands c.Newline _ gap = ⊥
GapStands c.End Begins gap = (unclosed : Bool) × IsGap true unclosed gap
GapStands c.End _ gap = ⊥
GapStands _ Begins gap = IsGap true false gap
GapStands _ Within gap = IsGap true false gap
GapStands _ Along gap = IsGap false false gap

-- the gap of a leaf at a spot may be there
abbrev pub Stands : Spot → Leaf → Type 0
Stands here leaf = GapStands leaf.class here leaf.gap

-- A token of a class before these leaves is the longest lexeme at the front of what it and they spell; a newline is a
-- line feed, or nothing at the end of the text; the end is nothing, and no leaf is after it.
abbrev pub TokenStands : Class → List ℕ → List Leaf → Type 0
TokenStands c.Newline token leaves = (token ≡ line_feed ∷ []) ⊎ ((token ≡ []) × (spell_leaves leaves ≡ []))
TokenStands c.End token leaves = (token ≡ []) × (leaves ≡ [])
TokenStands class token leaves = IsToken class token (spell_leaves leaves)

-- each of the leaves has such a token before the leaves after it
abbrev pub AreTokens : List Leaf → Type 0
AreTokens [] = Unit {0}
AreTokens (leaf ∷ leaves) = TokenStands leaf.class leaf.token leaves × AreTokens leaves
