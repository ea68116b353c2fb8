use Rattle.bz_hosts.proofs.Words.{◌≡◌, drop, is_split, map, seen}
use Rattle.bz_hosts.proofs.before.breaks_from.Given as goal

abbrev pub invariant-loop-at : goal.invariant-loop-at
invariant-loop-at l = is_split (map seen (drop l.at l.parts)) ≡ is_split (map seen (drop l.from l.parts))
