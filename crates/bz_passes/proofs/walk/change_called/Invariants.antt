use Rattle.bz_passes.proofs.Words.{◌++◌, ◌≡◌, attribute_changed, drop, map, on_attribute, take}
use Rattle.bz_passes.proofs.walk.change_called.Given as goal

abbrev pub invariant-loop-x : goal.invariant-loop-x
invariant-loop-x l = take l.x-index l.arguments ++ map (on_attribute (attribute_changed l.kind)) (drop l.x-index l.arguments) ≡ map (on_attribute (attribute_changed l.kind)) l.fn.arguments
