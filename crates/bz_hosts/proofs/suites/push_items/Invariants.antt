use Rattle.bz_hosts.proofs.Words.{◌++◌, ◌≡◌, Item as i, map}
use Rattle.bz_hosts.proofs.suites.push_items.Given as goal

abbrev pub invariant-loop-statement : goal.invariant-loop-statement
invariant-loop-statement l = l.items ++ map i.Stmt l.statement-iterator.rest.items ≡ l.fn.items ++ map i.Stmt l.fn.statements
