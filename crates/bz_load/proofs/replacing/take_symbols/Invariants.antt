use Rattle.bz_load.proofs.Words.{◌++◌, ◌≡◌, into_iter_items, left_symbols, on_rest}
use Rattle.bz_load.proofs.replacing.take_symbols.Given as goal

abbrev pub invariant-loop-x : goal.invariant-loop-x
invariant-loop-x l = l.items ++ left_symbols l.symbol l.found (into_iter_items l.x-iterator) ≡ on_rest (left_symbols l.symbol l.fn.found) l.fn.items
