use Rattle.bz_layout.proofs.Words.{◌&&◌, ◌≡◌, drop, is_tuple, joined_text, length, nat_eq, pushed, row_text, stacked_text, statements_text, writings}
use Rattle.bz_layout.proofs.Writing.{head_text}
use Rattle.bz_layout.proofs.texts.+push.Given as goal

abbrev pub invariant-push_row-loop-i : goal.invariant-push_row-loop-i
invariant-push_row-loop-i l =
    pushed l.out (row_text l.lines l.form.kind l.form.open_break l.margin l.inner (drop l.i l.row)) ≡ pushed l.fn.out (row_text l.lines l.form.kind l.form.open_break l.margin l.margin l.row)

abbrev pub invariant-push_form-loop-i : goal.invariant-push_form-loop-i
invariant-push_form-loop-i l = pushed l.out (head_text l.lines l.margin (drop l.i l.head)) ≡ pushed l.fn.out (head_text l.lines l.margin l.head)

abbrev pub invariant-push_joined-loop-i : goal.invariant-push_joined-loop-i
invariant-push_joined-loop-i l = pushed l.out (joined_text l.lines l.margin l.closer l.one (drop l.i l.items)) ≡ pushed l.fn.out (joined_text l.lines l.margin l.closer (is_tuple l.form.kind && nat_eq (length l.items) 1) l.items)

abbrev pub invariant-push_stacked-loop-i : goal.invariant-push_stacked-loop-i
invariant-push_stacked-loop-i l = pushed l.out (stacked_text l.lines l.form.kind l.margin l.closer l.form.seq.end (drop l.i l.items)) ≡ pushed l.fn.out (stacked_text l.lines l.form.kind l.margin l.closer l.form.seq.end l.items)

abbrev pub invariant-push_statements-loop-expr : goal.invariant-push_statements-loop-expr
invariant-push_statements-loop-expr l = pushed l.out (statements_text l.margin (writings l.lines (drop l.expr-index l.exprs))) ≡ pushed l.fn.out (statements_text l.margin (writings l.lines l.exprs))
