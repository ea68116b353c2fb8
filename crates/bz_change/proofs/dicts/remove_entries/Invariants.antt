use Rattle.bz_change.proofs.Words.{◌||◌, ◌≡◌, Bytes, bytes_eq, drop, list_any, texts_of}
use Rattle.bz_change.proofs.dicts.remove_entries.Given as goal

abbrev pub invariant-loop-key : goal.invariant-loop-key
invariant-loop-key l = (other : Bytes) → (list_any (bytes_eq other) (texts_of l.chosen) || list_any (bytes_eq other) (drop l.key-index l.keys)) ≡ list_any (bytes_eq other) l.keys
