use Rattle.bz_list.proofs.Words.{◌++◌, ◌≡◌, chooses, filter, into_iter_items, is_left}
use Rattle.bz_list.proofs.editing.take_in.Given as goal

abbrev pub invariant-loop-x : goal.invariant-loop-x
invariant-loop-x l = record {
  left : l.items ++ filter (is_left l.fn.slot.current.now l.fn.slot.attribute.now l.fn.chosen) (into_iter_items l.x-iterator) ≡ filter (is_left l.fn.slot.current.now l.fn.slot.attribute.now l.fn.chosen) l.fn.items;
  taken : l.taken ++ filter (chooses l.fn.slot.current.now l.fn.slot.attribute.now l.fn.chosen) (into_iter_items l.x-iterator) ≡ l.fn.taken ++ filter (chooses l.fn.slot.current.now l.fn.slot.attribute.now l.fn.chosen) l.fn.items;
}
