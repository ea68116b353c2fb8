use Rattle.bz_command.proofs.Words.{◌++◌, ◌≡◌, drop, each_meant, marked_places}
use Rattle.bz_command.proofs.targets.each_meant.Given as goal

-- the places of the items so far, and after them those of the items that are left
abbrev pub invariant-loop-at : goal.invariant-loop-at
invariant-loop-at l = l.places.items ++ marked_places l.at (each_meant l.which l.left (drop l.at l.items)) ≡ marked_places 0 (each_meant l.which l.fn.lines l.items)
