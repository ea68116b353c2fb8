-- Laws of leaves.
use Rattle.std.specs.Prelude.{◌≡◌, List, IsUtf8}
use Rattle.bz_lex.specs.declared.leaf.Leaf.{Leaf}
use Rattle.bz_lex.specs.Leaves.{spell_leaves, AreLeaves, AreCoded}

-- no text has two lists of leaves
abbrev pub OneLexing : Type 0
OneLexing = (leaves others : List Leaf) → AreLeaves leaves → AreLeaves others → spell_leaves leaves ≡ spell_leaves others → leaves ≡ others

-- The leaves of a text of characters are texts of characters, and leaves that are such spell one.
abbrev pub CodedLeaves : Type 0
CodedLeaves = ((leaves : List Leaf) → AreLeaves leaves → IsUtf8 (spell_leaves leaves) → AreCoded leaves) × ((leaves : List Leaf) → AreCoded leaves → IsUtf8 (spell_leaves leaves))
