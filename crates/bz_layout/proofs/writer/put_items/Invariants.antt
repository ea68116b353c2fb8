use Rattle.bz_layout.proofs.Words.{AreReached, drop, Item, List, Part}
use Rattle.bz_layout.proofs.writer.put_items.Given as goal

abbrev pub invariant-loop-at : goal.invariant-loop-at
invariant-loop-at l = (parts all : List Part) (before : List Item) → AreReached parts all l.fn.writer before (drop l.window.from l.items) → AreReached parts all l.writer before (drop l.at l.items)
