-- For private functions only: the lines of items that came in the place of others, and the gap before an item.
use Rattle.std.specs.Prelude.{ℕ, zero, suc, Bool, IsTrue, ◌≡◌, ◌≤◌, ◌+◌, ◌-◌, List, [], ◌∷◌, ◌++◌, length, take, drop}
use Rattle.bz_layout.specs.Words.{Item, Bytes, Window}
use Rattle.bz_value.specs.declared.value.Item.TheVariants as i
use Rattle.bz_layout.specs.LaidOut.{left_gap, before_next}

-- how many lines items have: one for each statement
abbrev pub line_count_in : List Item → ℕ
line_count_in [] = 0
line_count_in (i.Block texts ∷ items) = line_count_in items
line_count_in (i.Stmt x ∷ items) = suc (line_count_in items)

-- the gap before what is after this many items, where this gap is before the first of them
abbrev pub statement_gap : Bytes → ℕ → List Item → Bytes
statement_gap gap zero items = gap
statement_gap gap (suc n) [] = gap
statement_gap gap (suc n) (item ∷ items) = statement_gap (left_gap gap item ++ before_next item items) n items

-- the items that came
abbrev pub come_items : List Window → List Item → List Item
come_items [] items = []
come_items (w ∷ ws) items = take w.come (drop w.from items) ++ come_items ws (drop (w.from + w.come) items)

-- how many lines there were, if each item that was taken out had one
abbrev pub old_lines : List Window → List Item → ℕ
old_lines [] items = line_count_in items
old_lines (w ∷ ws) items = line_count_in (take w.from items) + w.gone + old_lines ws (drop (w.from + w.come) items)

-- how many items there were, where there are this many now
abbrev pub old_count : List Window → ℕ → ℕ
old_count [] count = count
old_count (w ∷ ws) count = old_count ws (count - w.come + w.gone)

-- each of these items has a line, if that is said
abbrev pub HaveLines : Bool → List Item → Type 0
HaveLines said items = IsTrue said → line_count_in items ≡ length items

-- how many items are before the end of the last window
abbrev pub come_end : List Window → ℕ
come_end [] = 0
come_end (w ∷ ws) = (w.from + w.come) + come_end ws

-- as AreOver, where each window counts the lines of what was taken out
abbrev pub AreLinesOver : List Window → List Item → List Item → Type 0
AreLinesOver [] before after = before ≡ after
AreLinesOver (w ∷ ws) before after =
    (gone : ℕ) × (w.from + gone ≤ length before) × (w.from + w.come ≤ length after) × (take w.from after ≡ take w.from before)
    × (line_count_in (take gone (drop w.from before)) ≡ w.gone) × AreLinesOver ws (drop (w.from + gone) before) (drop (w.from + w.come) after)

-- and the same, where it may be said that each item that was there has a line
abbrev pub AreCounted : Bool → List Window → List Item → List Item → Type 0
AreCounted said windows before after = AreLinesOver windows before after × HaveLines said before
