use Rattle.bz_list.proofs.Words.{◌++◌, ◌≡◌, drop, edited, filter, flat_map, map, on_operand, operand_items, parts_of, take, takes}
use Rattle.bz_command_syntax.specs.declared.command.Selects.TheVariants.{Entered}
use Rattle.bz_list.proofs.editing.Edit.on_all_lists.Given as goal

abbrev pub invariant-loop-operand : goal.invariant-loop-operand
invariant-loop-operand l = record {
  left : take l.operand-index l.operand-items ++ map (on_operand Entered (edited l.fn.self l.fn.slot.current.now l.fn.slot.attribute.now)) (drop l.operand-index l.operand-items) ≡ map (on_operand Entered (edited l.fn.self l.fn.slot.current.now l.fn.slot.attribute.now)) (parts_of l.fn.x);
  taken : l.taken ++ filter (takes l.fn.self l.fn.slot.current.now l.fn.slot.attribute.now) (flat_map operand_items (drop l.operand-index l.operand-items)) ≡ l.fn.taken ++ filter (takes l.fn.self l.fn.slot.current.now l.fn.slot.attribute.now) (flat_map operand_items (parts_of l.fn.x));
}
