use Rattle.bz_load.proofs.Words.{◌||◌, ◌≡◌, Bytes, drop, is_used, knows_name}
use Rattle.bz_load.proofs.fixing.used_names.Given as goal

abbrev pub invariant-loop-item : goal.invariant-loop-item
invariant-loop-item l = (text : Bytes) → (knows_name l.names text || is_used (drop l.item-index l.items) text) ≡ is_used l.items text
