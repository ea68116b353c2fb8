use Rattle.bz_layout.proofs.Words.{◌↔◌, ◌≤◌, deepest_line, deepest_of, drop}
use Rattle.bz_layout.proofs.depth.+within.Given as goal

abbrev pub invariant-are_within-loop-expr : goal.invariant-are_within-loop-expr
invariant-are_within-loop-expr l = (deepest_of (drop l.expr-index l.exprs) ≤ l.depth) ↔ (deepest_of l.exprs ≤ l.depth)

abbrev pub invariant-are_lines_within-loop-expr : goal.invariant-are_lines_within-loop-expr
invariant-are_lines_within-loop-expr l = (deepest_line (drop l.expr-index l.exprs) ≤ l.depth) ↔ (deepest_line l.exprs ≤ l.depth)
