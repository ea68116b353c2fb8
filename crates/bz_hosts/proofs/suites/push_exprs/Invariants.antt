use Rattle.bz_hosts.proofs.Words.{◌++◌, ◌≡◌, exprs_in}
use Rattle.bz_hosts.proofs.suites.push_exprs.Given as goal

abbrev pub invariant-loop-item : goal.invariant-loop-item
invariant-loop-item l = l.out ++ exprs_in l.item-iterator.rest.items ≡ l.fn.out ++ exprs_in l.fn.items
