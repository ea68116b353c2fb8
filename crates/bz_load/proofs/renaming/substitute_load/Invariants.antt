use Rattle.bz_load.proofs.Words.{◌++◌, ◌≡◌, drop, substitute_load}
use Rattle.bz_load.proofs.renaming.substitute_load.Given as goal

abbrev pub invariant-loop-item : goal.invariant-loop-item
invariant-loop-item l = l.all.items ++ substitute_load l.fn.pattern l.fn.template (drop l.item-index l.items) ≡ substitute_load l.fn.pattern l.fn.template l.items
