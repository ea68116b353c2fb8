use Rattle.bz_command.proofs.Words.{◌++◌, ◌≡◌, drop, item_hash, map}
use Rattle.bz_command.proofs.hashes.hashes_of.Given as goal

abbrev pub invariant-loop-item : goal.invariant-loop-item
invariant-loop-item l = l.hashes ++ map item_hash (drop l.item-index l.items) ≡ map item_hash l.items
