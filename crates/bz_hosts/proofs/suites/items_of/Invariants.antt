use Rattle.bz_hosts.proofs.Words.{[], ◌++◌, ◌≡◌, drop, indented_lines_before, items_from, lines_of, map, stated}
use Rattle.bz_hosts.proofs.suites.items_of.Given as goal

abbrev pub invariant-loop-at : goal.invariant-loop-at
invariant-loop-at l = l.items ++ items_from (lines_of l.rest.left.now ++ lines_of l.rest.gap.now) (drop l.at l.parts) ≡ items_from (indented_lines_before (map stated l.parts) []) l.parts
