use Rattle.std.proofs.Common.{sym, ◌∙◌}
use Rattle.bz_layout.proofs.{Deep.form_next, LineWindows.both_less, LineWindows.deeper_first}
use Rattle.bz_layout.proofs.depth.+within.Goals as goal

pub are_within-returns-then-not-is_form_within : goal.are_within-returns-then-not-is_form_within
are_within-returns-then-not-is_form_within t c =
    deeper_first _ _ _ _ _ (form_next c.args.exprs.now c.loop-expr.expr-index c.expr-item.result c.in-Form.form c.loop-expr-test.true (sym c.expr-item.is ∙ c.in-Form.is)) c.is_form_within.ensures c.if-not-is_form_within.true c.loop-expr.invariant

pub are_within-loop-expr-preserved : goal.are_within-loop-expr-preserved
are_within-loop-expr-preserved t c =
    both_less _ _ _ _ _ (form_next c.args.exprs.now c.loop-expr.expr-index c.expr-item.result c.in-Form.form c.loop-expr-test.true (sym c.expr-item.is ∙ c.in-Form.is)) c.is_form_within.ensures c.if-not-is_form_within.false c.loop-expr.invariant
