use Rattle.bz_change.proofs.Words.{◌≡◌, drop, takes_no_items}
use Rattle.bz_change.proofs.dicts.takes_no_items.Given as goal

-- the entries so far have other keys
abbrev pub invariant-loop-x : goal.invariant-loop-x
invariant-loop-x l = takes_no_items l.key (drop l.x-index l.items) ≡ takes_no_items l.key l.items
