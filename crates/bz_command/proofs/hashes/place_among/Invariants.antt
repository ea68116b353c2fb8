use Rattle.bz_command.proofs.Words.{[], ◌<◌, ◌≡◌, false, get_or, has_name, Item as i, ℕ}
use Rattle.bz_command.proofs.hashes.place_among.Given as goal

-- no item before this one has the name
abbrev pub invariant-loop-at : goal.invariant-loop-at
invariant-loop-at l = (k : ℕ) → k < l.at → has_name l.name (get_or l.items k (i.Block [])) ≡ false
