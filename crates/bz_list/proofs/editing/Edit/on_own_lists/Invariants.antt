use Rattle.bz_list.proofs.Words.{◌++◌, ◌≡◌, drop, edited, filter, flat_map, listed, map, parts_of, take, takes}
use Rattle.bz_list.proofs.editing.Edit.on_own_lists.Given as goal

abbrev pub invariant-loop-operand : goal.invariant-loop-operand
invariant-loop-operand l = record {
  left : take l.operand-index l.operand-items ++ map (edited l.fn.self l.fn.slot.current.now l.fn.slot.attribute.now) (drop l.operand-index l.operand-items) ≡ map (edited l.fn.self l.fn.slot.current.now l.fn.slot.attribute.now) (parts_of l.fn.x);
  taken : l.taken ++ filter (takes l.fn.self l.fn.slot.current.now l.fn.slot.attribute.now) (flat_map listed (drop l.operand-index l.operand-items)) ≡ l.fn.taken ++ filter (takes l.fn.self l.fn.slot.current.now l.fn.slot.attribute.now) (flat_map listed (parts_of l.fn.x));
}
