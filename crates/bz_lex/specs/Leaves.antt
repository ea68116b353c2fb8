-- The leaves of a text: gaps and tokens that cover it, each where it may be.
use Rattle.std.specs.Prelude.{◌≡◌, ℕ, List, [], ◌∷◌, ◌++◌, IsUtf8}
use Rattle.std.specs.List.{AllByRecursion}
use Rattle.bz_token.specs.Tokens.{IsToken}
use Rattle.bz_lex.specs.declared.leaf.Leaf.{Leaf}
use Rattle.bz_lex.specs.Places.{Place, Fresh, Over, next, May}

-- the text of the leaves: the gap and the token of each in turn
abbrev pub spell_leaves : List Leaf → List ℕ
spell_leaves [] = []
spell_leaves (leaf ∷ leaves) = leaf.gap ++ (leaf.token ++ spell_leaves leaves)

-- Each leaf is where it may be, by what may says of its place, itself and the text after it, up to the end.
abbrev pub Stand : (Place → Leaf → List ℕ → Type 0) → Place → List Leaf → Type 0
Stand may place [] = place ≡ Over
Stand may place (leaf ∷ leaves) = may place leaf (spell_leaves leaves) × Stand may (next place leaf) leaves

-- the leaves of a whole text, from the start of its first line to the end
abbrev pub AreLeaves : List Leaf → Type 0
AreLeaves leaves = Stand (May IsToken) Fresh leaves

-- the text has no leaves
abbrev pub NoLeaves : List ℕ → Type 0
NoLeaves text = (leaves : List Leaf) → AreLeaves leaves → spell_leaves leaves ≡ text → ⊥

-- gap and token are texts of characters
abbrev pub IsCodedLeaf : Leaf → Type 0
IsCodedLeaf leaf = IsUtf8 leaf.gap × IsUtf8 leaf.token

-- the leaves' gaps and tokens are texts of characters
abbrev pub AreCoded : List Leaf → Type 0
AreCoded leaves = AllByRecursion IsCodedLeaf leaves
