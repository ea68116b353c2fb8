use Rattle.bz_load.proofs.Words.{◌||◌, ◌≡◌, drop, is_loaded, knows, Symbol}
use Rattle.bz_load.proofs.adding.insert_loads.Given as goal

abbrev pub invariant-loop-item : goal.invariant-loop-item
invariant-loop-item l = (other : Symbol) → (is_loaded l.path (drop l.item-index l.items) other || knows l.known.keys other) ≡ (is_loaded l.path l.items other || knows l.fn.known.keys other)
