use Rattle.bz_hosts.proofs.Words.{[], ◌-◌, ◌≡◌, Bool, branches, Bytes, drop, GapLine, Kind, List, map, seen, stated, take}
use Rattle.bz_hosts.proofs.headers.colon_from.Given as goal

abbrev pub invariant-loop-at : goal.invariant-loop-at
invariant-loop-at l = (first : Bool) (kind : Kind) → (above : List Bytes) → (left after : List GapLine)
    → branches first kind [] above left (map stated (drop l.from l.parts)) after ≡ branches first kind (map seen (take (l.at - l.from) (drop l.from l.parts))) above left (map stated (drop l.at l.parts)) after
