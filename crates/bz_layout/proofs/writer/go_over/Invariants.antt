use Rattle.bz_layout.proofs.Words.{[], ◌≡◌, AreCounted, AreWithin, drop, IsProperBuild, Item, lines_from, List}
use Rattle.bz_layout.proofs.Staying.{IsOver}
use Rattle.bz_layout.proofs.writer.go_over.Given as goal

abbrev pub invariant-loop-window : goal.invariant-loop-window
invariant-loop-window l =
    AreWithin (drop l.window-index l.windows) l.rest
    × ((before : List Item) → lines_from [] before ≡ l.parts → IsProperBuild before → IsProperBuild l.items → AreCounted l.each_is_line l.windows before l.items → IsOver l.each_is_line l.parts (lines_from [] l.items) (drop l.window-index l.windows) l.writer l.rest)
