-- Windows of a file's items that are tidied apart from what is around them, and where one item comes among the loads around it.
use Rattle.std.specs.Prelude.{◌≡◌, ◌+◌, ◌&&◌, ◌||◌, ℕ, Bool, true, false, List, [], ◌∷◌, ◌++◌, drop, take, not}
use Rattle.std.specs.List.{AllByRecursion}
use Rattle.bz_passes.specs.Words.{AreOver, AreWithin, Item, Window}
use Rattle.bz_passes.specs.Joined.{begins_with_load}
use Rattle.bz_passes.specs.Passes.{is_run_load, passed, load_precedes}
use Rattle.bz_passes.specs.private.Repeats.{Climbs}

-- whether the last of these items passes a test
abbrev pub last_passes : (Item → Bool) → List Item → Bool
last_passes test [] = false
last_passes test (item ∷ []) = test item
last_passes test (item ∷ next ∷ items) = last_passes test (next ∷ items)

-- whether the last of these items is a load that is sorted with its neighbours
abbrev pub ends_with_load : List Item → Bool
ends_with_load = last_passes is_run_load

abbrev pub AreLoads : List Item → Type 0
AreLoads = AllByRecursion (λ item. is_run_load item ≡ true)

-- whether such loads are on both sides of a place
abbrev pub touches : ℕ → List Item → Bool
touches at items = ends_with_load (take at items) && begins_with_load (drop at items)

-- whether they are on both sides of where any window begins or ends
abbrev pub any_touched : List Window → List Item → Bool
any_touched [] items = false
any_touched (w ∷ ws) items = touches w.from items || touches (w.from + w.come) items || any_touched ws (drop (w.from + w.come) items)

-- what came in each window tidied as if it were alone; the other items stay
abbrev pub tidied_over : List Window → List Item → List Item
tidied_over [] items = items
tidied_over (w ∷ ws) items = take w.from items ++ passed (take w.come (drop w.from items)) ++ tidied_over ws (drop (w.from + w.come) items)

-- all windows and the items between them as one
abbrev pub all_joined : Window → List Window → Window
all_joined w [] = w
all_joined w (v ∷ vs) = all_joined (record { from = w.from; gone = w.gone + v.from + v.gone; come = w.come + v.from + v.come }) vs

-- The other windows hold all that the windows hold, and no load is sorted into or out of them.
pub record AreSetApart (windows others : List Window) (items : List Item) : Type 0 where
  pub within : AreWithin others items
  pub apart : any_touched others items ≡ false
  pub over : (before : List Item) → AreOver windows before items → AreOver others before items

-- What the three clauses of `tidy_windows` say: where items came at these windows of a tidy file, it was tidied, and then differs from
-- that tidy file at the other windows.
pub record AreTidied (windows others : List Window) (old new : List Item) : Type 0 where
  pub within : AreWithin others new
  pub tidy : (before : List Item) → passed before ≡ before → AreOver windows before old → new ≡ passed old
  pub over : (before : List Item) → passed before ≡ before → AreOver windows before old → AreOver others before new

-- What is left to be tidied, in the same windows: however that is done, the file that there was is tidied.
pub record IsStillToTidy (windows others : List Window) (old mid : List Item) : Type 0 where
  pub same : others ≡ windows
  pub within : AreWithin windows mid
  pub goes : (new : List Item) (vs : List Window) → AreTidied windows vs mid new → AreTidied windows vs old new

-- ---- where one item comes

-- whether the item comes before the last of these
abbrev pub precedes_last : Item → List Item → Bool
precedes_last x = last_passes (load_precedes x)

-- whether the first of these comes before the item
abbrev pub first_precedes : Item → List Item → Bool
first_precedes x [] = false
first_precedes x (y ∷ ys) = load_precedes y x

-- no load comes before the one right before it
abbrev pub AreInOrder : List Item → Type 0
AreInOrder = Climbs (λ x y. not (load_precedes y x))

-- The item comes after the first `to` of the front: it precedes all after them, and not the last of them.
pub record IsPlaceBack (item : Item) (to : ℕ) (front : List Item) : Type 0 where
  pub later : AllByRecursion (λ other. load_precedes item other ≡ true) (drop to front)
  pub stops : precedes_last item (take to front) ≡ false

-- the same between `front` and `rest`: the first of the rest doesn't precede it
pub record IsPlaceOf (item : Item) (to : ℕ) (front rest : List Item) : Type 0 where
  pub back : IsPlaceBack item to front
  pub follows : first_precedes item rest ≡ false

-- the item at a place is moved to another before it
abbrev pub IsMoved : ℕ → ℕ → List Item → List Item → Type 0
IsMoved from to old new = (item : Item) (rest : List Item) → drop from old ≡ item ∷ rest → new ≡ take to old ++ item ∷ drop to (take from old) ++ rest

-- one window in which one item came
abbrev pub one_at : ℕ → ℕ → List Window
one_at from gone = record { from = from; gone = gone; come = 1 } ∷ []
