use Rattle.bz_list.proofs.Words.{◌++◌, ◌≡◌, drop, entry_edited, entry_items, filter, flat_map, map, take, takes}
use Rattle.bz_list.proofs.editing.Edit.on_entries.Given as goal

abbrev pub invariant-loop-entry : goal.invariant-loop-entry
invariant-loop-entry l = record {
  left : take l.entry-index l.entry-items ++ map (entry_edited l.fn.self l.fn.slot.current.now l.fn.slot.attribute.now) (drop l.entry-index l.entry-items) ≡ map (entry_edited l.fn.self l.fn.slot.current.now l.fn.slot.attribute.now) l.fn.entries;
  taken : l.taken ++ filter (takes l.fn.self l.fn.slot.current.now l.fn.slot.attribute.now) (flat_map entry_items (drop l.entry-index l.entry-items)) ≡ l.fn.taken ++ filter (takes l.fn.self l.fn.slot.current.now l.fn.slot.attribute.now) (flat_map entry_items l.fn.entries);
}
