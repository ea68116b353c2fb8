-- The layout of items after others.
use Rattle.std.specs.Prelude.{◌≡◌, ◌≤◌, ℕ, List, [], ◌∷◌, ◌++◌, Option, None, Some}
use Rattle.bz_layout.specs.Words.{Bytes, depth_of, Item}
use Rattle.bz_layout.specs.LaidOut.{before_next, before_next_in, laid_out}
use Rattle.bz_layout.specs.Written.{layout}
use Rattle.bz_layout.specs.declared.breaks.Lines.{Lines}
use Rattle.bz_layout.specs.declared.breaks.Lines.TheVariants as l

-- what is between an item, where there is one, and those that follow
abbrev pub gap_below_in : Lines → Option Item → List Item → Bytes
gap_below_in lines None items = []
gap_below_in lines (Some item) items = before_next_in lines item items

abbrev pub gap_below : Option Item → List Item → Bytes
gap_below above items = gap_below_in l.Counted above items

-- Items after others have their own layout after that of the others, and what is between the last of these and them.
abbrev pub LayoutsJoin : Type 0
LayoutsJoin = (front : List Item) (item : Item) (items : List Item) → layout ((front ++ item ∷ []) ++ items) ≡ layout (front ++ item ∷ []) ++ (before_next item items ++ layout items)

-- and the tree of both layouts is no deeper than the deeper one
abbrev pub DepthsJoin : Type 0
DepthsJoin = (front items : List Item) (depth : ℕ) → depth_of (laid_out front) ≤ depth → depth_of (laid_out items) ≤ depth → depth_of (laid_out (front ++ items)) ≤ depth
