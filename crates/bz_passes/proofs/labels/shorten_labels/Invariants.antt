use Rattle.bz_passes.proofs.Words.{◌++◌, ◌≡◌, drop, labelled, map, take}
use Rattle.bz_passes.proofs.labels.shorten_labels.Given as goal

abbrev pub invariant-loop-x : goal.invariant-loop-x
invariant-loop-x l = take l.x-index l.x-items ++ map labelled (drop l.x-index l.x-items) ≡ map labelled l.fn.items
