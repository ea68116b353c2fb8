-- Lines before lines: a text that ends with its last line, and a text after it.
use Rattle.std.specs.Prelude.{◌≡◌, ◌≤◌, ℕ, List, [], ◌∷◌, ◌++◌, length}
use Rattle.std.specs.List.{flat_map}
use Rattle.bz_items.specs.Characters.{line_feed}
use Rattle.bz_lex.specs.declared.leaf.Leaf.{Leaf}
use Rattle.bz_grammar.specs.declared.kind.Kind.TheVariants as k
use Rattle.bz_grammar.specs.declared.tree.Node.{Node}
use Rattle.bz_grammar.specs.declared.tree.Part.{Part}
use Rattle.bz_grammar.specs.declared.tree.Part as p
use Rattle.bz_grammar.specs.Spell.{leaves_part, limit}
use Rattle.bz_grammar.specs.Legal.{Reads, ReadsBzl}

-- the token of the last leaf; without leaves a line feed, since a line begins after both
abbrev pub last_token : List Leaf → List ℕ
last_token [] = line_feed ∷ []
last_token (l ∷ []) = l.token
last_token (l ∷ m ∷ ls) = last_token (m ∷ ls)

-- Whole lines: they end with a newline that is a line feed.
abbrev pub AreWholeLines : List Part → Type 0
AreWholeLines xs = last_token (flat_map leaves_part xs) ≡ line_feed ∷ []

-- the file of these parts
abbrev pub file_with : List Part → Node
file_with parts = record { kind = k.File; parts = parts }

-- A text of whole lines with nothing between the last of them and the end, and a text: both joined read as the lines of the
-- one before those of the other, by what Reads is.
abbrev pub JoinAs : (List ℕ → Node → Type 0) → Type 0
JoinAs Reads = (s t : List ℕ) (n m : Node) (xs : List Part) (end : Leaf) → n.parts ≡ xs ++ p.Leaf end ∷ [] → AreWholeLines xs → end.gap ≡ [] → Reads s n → Reads t m → length (s ++ t) ≤ limit
    → Reads (s ++ t) (file_with (xs ++ m.parts))

-- of BUILD files, and of .bzl files
abbrev pub LinesJoin : Type 0
LinesJoin = JoinAs Reads

abbrev pub BzlLinesJoin : Type 0
BzlLinesJoin = JoinAs ReadsBzl
