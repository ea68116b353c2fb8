use Rattle.bz_change.proofs.Words.{AreIndexed, take}
use Rattle.bz_change.proofs.dicts.index.Given as goal

abbrev pub invariant-loop-at : goal.invariant-loop-at
invariant-loop-at l = AreIndexed l.places (take l.at l.items)
