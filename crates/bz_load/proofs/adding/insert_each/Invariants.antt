use Rattle.bz_load.proofs.Words.{◌||◌, ◌≡◌, drop, knows, list_any, loads_symbol, Symbol}
use Rattle.bz_load.proofs.adding.insert_each.Given as goal

abbrev pub invariant-loop-x : goal.invariant-loop-x
invariant-loop-x l = (other : Symbol) → (list_any (loads_symbol other) (drop l.x-index l.exprs) || knows l.known.keys other) ≡ (list_any (loads_symbol other) l.exprs || knows l.fn.known.keys other)
