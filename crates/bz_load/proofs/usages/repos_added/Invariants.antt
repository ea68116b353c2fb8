use Rattle.bz_load.proofs.Words.{◌≡◌, drop, repos_added}
use Rattle.bz_load.proofs.usages.repos_added.Given as goal

abbrev pub invariant-loop-repo : goal.invariant-loop-repo
invariant-loop-repo l = repos_added l.fn.variables l.fn.variable (drop l.repo-index l.repos) l.items ≡ repos_added l.fn.variables l.fn.variable l.repos l.fn.items
