use Rattle.bz_load.proofs.Words.{◌||◌, ◌≡◌, Bytes, drop, knows_name, list_any, mentions}
use Rattle.bz_load.proofs.paths.insert_loads.Given as goal

abbrev pub invariant-loop-item : goal.invariant-loop-item
invariant-loop-item l = (text : Bytes) → (list_any (mentions text) (drop l.item-index l.items) || knows_name l.texts text) ≡ (list_any (mentions text) l.items || knows_name l.fn.texts text)
