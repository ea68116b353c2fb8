use Rattle.bz_hosts.proofs.Branches.{Gathers}
use Rattle.bz_hosts.proofs.suites.push_gathered.Given as goal

abbrev pub invariant-loop-form : goal.invariant-loop-form
invariant-loop-form l = Gathers l.fn.suites l.first l.form-iterator.rest.items
