-- An index of the names of a file: for each name the places of the rules of this name.
use Rattle.std.specs.Prelude.{◌≡◌, ℕ, ◌+◌, Bool, true, false, List, [], ◌∷◌, bytes_eq, map}
use Rattle.std.specs.Map.{lookup}
use Rattle.std.specs.Option.{unwrap_or}
use Rattle.bz_value.specs.declared.value.Item.{Item}
use Rattle.bz_items.specs.Characters.{Bytes}
use Rattle.bz_rule.specs.Rules.{has_name}

-- the places of the marks that are set, in their order, where the first mark is at `at`
abbrev pub marked_places : ℕ → List Bool → List ℕ
marked_places at [] = []
marked_places at (true ∷ marks) = at ∷ marked_places (at + 1) marks
marked_places at (false ∷ marks) = marked_places (at + 1) marks

-- the places of the rules of this name, in their order, where the first item is at `at`
abbrev pub places_from : ℕ → Bytes → List Item → List ℕ
places_from at name items = marked_places at (map (has_name name) items)

-- names with their places
pub record Index : Type 0 where
  pub places : List (Bytes × List ℕ)

-- what names with places have for a name: nothing, where it is none of them
abbrev pub places_of : Bytes → List (Bytes × List ℕ) → List ℕ
places_of name places = unwrap_or (lookup (bytes_eq name) places) []

-- each name has the places of the rules of this name
pub record IsIndexOf (index : Index) (items : List Item) : Type 0 where
  pub places : (name : Bytes) → places_of name index.places ≡ places_from 0 name items

-- each item has the name that it had, or none where it had none
abbrev pub HaveSameNames : List Item → List Item → Type 0
HaveSameNames before after = (name : Bytes) → map (has_name name) after ≡ map (has_name name) before
