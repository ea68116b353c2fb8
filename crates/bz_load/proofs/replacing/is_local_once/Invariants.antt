use Rattle.bz_load.proofs.Words.{◌+◌, ◌≡◌, drop, filter, is_local, length, loaded_symbols, min}
use Rattle.bz_load.proofs.replacing.is_local_once.Given as goal

abbrev pub invariant-loop-item : goal.invariant-loop-item
invariant-loop-item l = min (l.count + length (filter (is_local l.symbol) (loaded_symbols (drop l.item-index l.items)))) 2 ≡ min (length (filter (is_local l.symbol) (loaded_symbols l.items))) 2
