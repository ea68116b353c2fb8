use Rattle.bz_rule.proofs.Words.{◌++◌, ◌≡◌, Bytes, drop, held, places_from, places_of}
use Rattle.bz_rule.proofs.places.all_places.Given as goal

-- the places of the items so far, and of those that are left
abbrev pub invariant-loop-at : goal.invariant-loop-at
invariant-loop-at l = (name : Bytes) → places_of name (held l.places.entries) ++ places_from l.at name (drop l.at l.items) ≡ places_from 0 name l.items
