use Rattle.bz_journal.proofs.Words.{drop, item_made_by, items_made_by}
use Rattle.bz_journal.proofs.GrownItems.{AreTried}
use Rattle.bz_journal.proofs.filling.are_past.Given as goal

-- what is known of the items that are left is known of all
abbrev pub invariant-loop-at : goal.invariant-loop-at
invariant-loop-at l = AreTried (item_made_by l.fn.work) l.items (items_made_by l.fn.work l.items) l.left l.differs (drop l.at-index l.places)
