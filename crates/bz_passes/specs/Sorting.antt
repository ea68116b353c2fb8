-- What it is to sort: to find the one list that has the same items in order, with ties in their old order. And `sort_by`, a way to it:
-- by the law `sorting_is_the_one` it gives that list, so how it goes about it need not be read.
use Rattle.std.specs.Prelude.{◌≡◌, ◌↔◌, Bool, true, false, List, ◌∷◌, ◌++◌, [], if◌then◌else◌}
use Rattle.std.specs.List.{AllByRecursion}
use Rattle.std.specs.List.Sorted.{IsPermutation, IsStableBy}

module _ {X : Type 0} where
  -- none of these comes before x
  abbrev pub NoneBefore : (X → X → Bool) → X → List X → Type 0
  NoneBefore precedes x xs = AllByRecursion (λ y. precedes y x ≡ false) xs

  -- no later item comes before an earlier one
  abbrev pub Rises : (X → X → Bool) → List X → Type 0
  Rises precedes [] = Unit {0}
  Rises precedes (x ∷ xs) = NoneBefore precedes x xs × Rises precedes xs

  -- The items of xs, sorted, are ys.
  -- same: ys holds the items of xs, each as often.
  -- ordered: no item of ys precedes one before it.
  -- stable: items of which neither precedes the other are in ys in the order that they have in xs.
  pub record IsSorting (precedes : X → X → Bool) (xs ys : List X) : Type 0 where
    pub same : IsPermutation xs ys
    pub ordered : Rises precedes ys
    pub stable : IsStableBy precedes xs ys

  -- The same where only some items take part in the sorting: each longest run of them is sorted in its place, and the items
  -- between the runs stay.
  -- one_run: every item takes part.
  -- next_run: after a run, which may be empty, an item takes no part; it is after the sorted run.
  pub data IsSortingByRuns (takes_part : X → Bool) (precedes : X → X → Bool) : List X → List X → Type 0 where
    one_run : {xs ys : List X} → AllByRecursion (λ x. takes_part x ≡ true) xs → IsSorting precedes xs ys → IsSortingByRuns takes_part precedes xs ys
    next_run : {xs ys : List X} (run ordered : List X) (bar : X) (rest others : List X) → xs ≡ run ++ bar ∷ rest → ys ≡ ordered ++ bar ∷ others
        → AllByRecursion (λ x. takes_part x ≡ true) run → IsSorting precedes run ordered → takes_part bar ≡ false
        → IsSortingByRuns takes_part precedes rest others → IsSortingByRuns takes_part precedes xs ys

  -- What a function gives is the one list in this relation to what it takes.
  abbrev pub GivesTheOne : (List X → List X → Type 0) → (List X → List X) → Type 0
  GivesTheOne Relation function = (xs ys : List X) → Relation xs ys ↔ (ys ≡ function xs)

  -- ---- stable insertion, by which lists, arguments, symbols and loads are sorted

  -- An item goes in front of a sorted list past all items that come before it. An item that no order compares with the
  -- others stops it: so each unbroken run of comparable items is sorted by itself.
  abbrev pub insert_by : (X → X → Bool) → X → List X → List X
  insert_by precedes x [] = x ∷ []
  insert_by precedes x (y ∷ ys) = if precedes y x then y ∷ insert_by precedes x ys else x ∷ y ∷ ys

  abbrev pub sort_by : (X → X → Bool) → List X → List X
  sort_by precedes [] = []
  sort_by precedes (x ∷ xs) = insert_by precedes x (sort_by precedes xs)
