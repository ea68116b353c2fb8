-- Items that are tidied apart from others.
use Rattle.std.specs.Prelude.{◌≡◌, Bool, false, List, [], ◌∷◌, ◌++◌}
use Rattle.bz_passes.specs.Words.{AreBuild, IsBuildItem, Item, item_with_flags}
use Rattle.bz_passes.specs.Changes.{after_passes}
use Rattle.bz_passes.specs.Passes.{is_run_load, on_statement, taken, tidied}

-- whether the first of these items is a load that is sorted with its neighbours
abbrev pub begins_with_load : List Item → Bool
begins_with_load [] = false
begins_with_load (item ∷ items) = is_run_load item

-- Items of a BUILD file that are after others are tidied apart, where the first of them is no load that is sorted with its neighbours.
abbrev pub TidiedApart : Type 0
TidiedApart = (items others : List Item) → AreBuild items → AreBuild others → begins_with_load others ≡ false → tidied (items ++ others) ≡ tidied items ++ tidied others

-- an item by itself: what the passes make of a statement, with its flags settled
abbrev pub item_tidied : Item → Item
item_tidied item = item_with_flags (on_statement (taken after_passes) item)

-- An item of a BUILD file is tidied by itself as it is in a file of its own.
abbrev pub TidiedAlone : Type 0
TidiedAlone = (item : Item) → IsBuildItem item → tidied (item ∷ []) ≡ item_tidied item ∷ []
