use Rattle.bz_layout.proofs.Words.{◌-◌, ◌≡◌, drop, past_first, pushed}
use Rattle.bz_layout.proofs.dotted.push_past_front.Given as goal

abbrev pub invariant-loop-at : goal.invariant-loop-at
invariant-loop-at l = pushed l.out (past_first l.form.kind l.form.open_break l.margin (drop (l.at - 1) l.row)) ≡ pushed l.fn.out (past_first l.form.kind l.form.open_break l.margin l.row)
