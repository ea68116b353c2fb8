use Rattle.bz_list.proofs.Words.{◌++◌, ◌≡◌, argument_left, flat_map, into_iter_items}
use Rattle.bz_list.proofs.listed.remove_everywhere.Given as goal

-- what is left of the arguments so far, and of those to come, is what is left of all
abbrev pub invariant-loop-x : goal.invariant-loop-x
invariant-loop-x l = l.all.items ++ flat_map (argument_left l.selects l.current l.words) (into_iter_items l.x-iterator) ≡ flat_map (argument_left l.selects l.current l.words) l.fn.arguments
