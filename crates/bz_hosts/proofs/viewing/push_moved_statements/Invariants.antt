use Rattle.bz_hosts.proofs.Words.{[], ◌++◌, ◌-◌, ◌≡◌, drop, length, map, seen, statements_in}
use Rattle.bz_hosts.proofs.viewing.push_moved_statements.Given as goal

abbrev pub invariant-loop-left : goal.invariant-loop-left
invariant-loop-left l = record {
  none : l.exprs.items ≡ [];
  rest : l.items ++ statements_in l.above (map seen (drop l.at l.left.items)) ≡ l.fn.items ++ statements_in l.fn.above (map seen l.fn.parts);
}

abbrev pub decreases-loop-left : goal.decreases-loop-left
decreases-loop-left l = length l.left.items - l.at
