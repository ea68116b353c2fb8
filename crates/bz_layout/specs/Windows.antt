-- The texts of what changes in the tree of a layout.
use Rattle.std.specs.Prelude.{◌≡◌, List, [], ◌∷◌}
use Rattle.std.specs.List.{flat_map}
use Rattle.bz_layout.specs.Words.{PartWindow, spell_part, Node, IsProperBuild, Item}
use Rattle.bz_layout.specs.LaidOut.{laid_out}
use Rattle.bz_layout.specs.declared.writer.TextWindow.{TextWindow}

-- the texts are what the parts spell, window by window
abbrev pub AreTextsOf : List TextWindow → List PartWindow → Type 0
AreTextsOf [] [] = Unit {0}
AreTextsOf (t ∷ ts) (w ∷ ws) = (t.from ≡ w.from) × (t.gone ≡ w.gone) × (t.text ≡ flat_map spell_part w.parts) × AreTextsOf ts ws
AreTextsOf _ _ = ⊥

-- the tree is the layout of these items
pub record IsLayoutOf (items : List Item) (tree : Node) : Type 0 where
  pub proper : IsProperBuild items
  pub laid_out : laid_out items ≡ tree
