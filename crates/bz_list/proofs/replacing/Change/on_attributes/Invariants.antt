use Rattle.bz_list.proofs.Words.{◌++◌, ◌≡◌, drop, map, other_changed_by, take}
use Rattle.bz_list.proofs.replacing.Change.on_attributes.Given as goal

abbrev pub invariant-loop-x : goal.invariant-loop-x
invariant-loop-x l = take l.x-index l.x-items ++ map (other_changed_by l.fn.selects l.fn.self l.fn.current) (drop l.x-index l.x-items) ≡ map (other_changed_by l.fn.selects l.fn.self l.fn.current) l.fn.arguments
