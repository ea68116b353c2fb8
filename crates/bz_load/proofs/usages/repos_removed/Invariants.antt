use Rattle.bz_load.proofs.Words.{◌++◌, ◌≡◌, drop, map, repos_removed, take, without_repos}
use Rattle.bz_load.proofs.usages.repos_removed.Given as goal

abbrev pub invariant-loop-item : goal.invariant-loop-item
invariant-loop-item l =
    take l.item-index l.item-items ++ map (without_repos l.fn.variables l.fn.repos) (drop l.item-index l.item-items) ≡ repos_removed l.fn.variables l.fn.repos l.fn.items
