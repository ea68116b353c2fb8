-- Items of a file that were taken out, and others that were put in their place.
use Rattle.std.specs.Prelude.{◌≡◌, ◌≤◌, ◌+◌, ℕ, List, [], ◌∷◌, drop, length, take}
use Rattle.bz_value.specs.declared.value.Item.{Item}
use Rattle.bz_value.specs.declared.windows.Window.{Window}

-- After the first `from` items, this many as `gone` says are there no more, and in their place this many others as `come` says; all
-- others are as before.
pub record IsSpliced (from gone come : ℕ) (before after : List Item) : Type 0 where
  pub front : take from after ≡ take from before
  pub following : drop (from + come) after ≡ drop (from + gone) before
  pub within : from + gone ≤ length before
  pub held : from + come ≤ length after

-- The same at each window, of which each counts from the end of the one before it; all items between windows are as before.
abbrev pub AreOver : List Window → List Item → List Item → Type 0
AreOver [] before after = before ≡ after
AreOver (w ∷ ws) before after =
    (w.from + w.gone ≤ length before) × (w.from + w.come ≤ length after) × (take w.from after ≡ take w.from before)
    × AreOver ws (drop (w.from + w.gone) before) (drop (w.from + w.come) after)

-- all that came is among these items
abbrev pub AreWithin : List Window → List Item → Type 0
AreWithin [] after = Unit {0}
AreWithin (w ∷ ws) after = (w.from + w.come ≤ length after) × AreWithin ws (drop (w.from + w.come) after)

-- one window: all items, in the place of all
abbrev pub all_of : ℕ → ℕ → List Window
all_of gone come = record { from = 0; gone = gone; come = come } ∷ []
