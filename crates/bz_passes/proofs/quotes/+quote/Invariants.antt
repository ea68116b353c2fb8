use Rattle.bz_passes.proofs.Words.{◌++◌, ◌≡◌, drop, map, quotes_in, take}
use Rattle.bz_passes.proofs.quotes.+quote.Given as goal

abbrev pub invariant-quote_each-loop-x : goal.invariant-quote_each-loop-x
invariant-quote_each-loop-x l = goal.unvisited-quote_each-loop-x l × (take l.x-index l.x-items ++ map quotes_in (drop l.x-index l.x-items) ≡ map quotes_in l.fn.exprs)
