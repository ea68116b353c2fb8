use Rattle.bz_list.proofs.Words.{◌++◌, ◌≡◌, drop, item_changed_by, map, take}
use Rattle.bz_list.proofs.replacing.Change.on_items.Given as goal

abbrev pub invariant-loop-x : goal.invariant-loop-x
invariant-loop-x l = take l.x-index l.x-items ++ map (item_changed_by l.fn.self l.fn.slot.current.now l.fn.slot.attribute.now) (drop l.x-index l.x-items) ≡ map (item_changed_by l.fn.self l.fn.slot.current.now l.fn.slot.attribute.now) l.fn.items
