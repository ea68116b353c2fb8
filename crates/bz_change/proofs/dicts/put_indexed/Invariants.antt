use Rattle.bz_change.proofs.Words.{◌≡◌, AreIndexed, drop, entries_put}
use Rattle.bz_change.proofs.dicts.put_indexed.Given as goal

abbrev pub invariant-loop-entry : goal.invariant-loop-entry
invariant-loop-entry l = record {
  indexed : AreIndexed l.places l.items;
  put : entries_put l.change l.slot.current.now l.slot.attribute.now (drop l.entry-index l.entries) l.items ≡ entries_put l.fn.change l.fn.slot.current.now l.fn.slot.attribute.now l.entries l.fn.items;
}
