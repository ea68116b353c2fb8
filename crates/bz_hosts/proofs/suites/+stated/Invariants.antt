use Rattle.bz_hosts.proofs.Words.{[], ◌++◌, ◌-◌, ◌≡◌, ◌≤◌, branches, drop, false, indented_lines_before, length, lines_of, map, stated, walked}
use Rattle.bz_value.specs.declared.value.Expr.TheVariants as e
use Rattle.bz_hosts.proofs.suites.+stated.Given as goal

abbrev pub invariant-push_all_statements-loop-at : goal.invariant-push_all_statements-loop-at
invariant-push_all_statements-loop-at l = record {
  out : l.out ++ (walked (lines_of l.rest.left.now ++ lines_of l.rest.gap.now) (map stated (drop l.at l.parts)) (lines_of l.after)).0
      ≡ l.fn.out ++ (walked (indented_lines_before (map stated l.parts) []) (map stated l.parts) (lines_of l.after)).0;
  rest : (walked (lines_of l.rest.left.now ++ lines_of l.rest.gap.now) (map stated (drop l.at l.parts)) (lines_of l.after)).1
      ≡ (walked (indented_lines_before (map stated l.parts) []) (map stated l.parts) (lines_of l.after)).1;
}

abbrev pub invariant-push_branches-loop-colon : goal.invariant-push_branches-loop-colon
invariant-push_branches-loop-colon l = record {
  within : l.from ≤ length l.parts;
  own : map e.Form l.own ++ (branches false l.kind [] l.above (lines_of l.rest.left.now ++ lines_of l.rest.gap.now) (map stated (drop l.from l.parts)) (lines_of l.after)).0
      ≡ map e.Form l.fn.own ++ (branches false l.kind [] l.fn.above (lines_of l.after) (map stated l.parts) (lines_of l.after)).0;
  rest : (branches false l.kind [] l.above (lines_of l.rest.left.now ++ lines_of l.rest.gap.now) (map stated (drop l.from l.parts)) (lines_of l.after)).1
      ≡ (branches false l.kind [] l.fn.above (lines_of l.after) (map stated l.parts) (lines_of l.after)).1;
}

abbrev pub decreases-push_branches-loop-colon : goal.decreases-push_branches-loop-colon
decreases-push_branches-loop-colon l = length l.parts - l.from
