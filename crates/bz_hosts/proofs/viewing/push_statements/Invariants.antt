use Rattle.bz_hosts.proofs.Words.{[], ◌++◌, ◌-◌, ◌≡◌, drop, length, map, seen, statements_in}
use Rattle.bz_hosts.proofs.viewing.push_statements.Given as goal

abbrev pub invariant-loop-before : goal.invariant-loop-before
invariant-loop-before l = record {
  none : l.exprs.items ≡ [];
  rest : l.items ++ statements_in l.before (map seen (drop l.at l.parts)) ≡ l.fn.items ++ statements_in l.fn.above (map seen l.parts);
}

abbrev pub decreases-loop-before : goal.decreases-loop-before
decreases-loop-before l = length l.parts - l.at
