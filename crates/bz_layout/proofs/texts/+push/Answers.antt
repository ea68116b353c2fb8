use Rattle.bz_layout.proofs.Words.{◌∙◌, ◌≡◌, ap, arith, HostComments, OnOk, pushed, refl, row_text, stacked_text, subst, sym}
use Rattle.bz_layout.proofs.Writing.{item_begun, stacked_closed, stacked_turn, three_of, three_pushed}
use Rattle.bz_layout.proofs.texts.+push.Goals as goal

pub push_row-returns : goal.push_row-returns
push_row-returns t c =
    subst (λ d. OnOk c.push_expr_in-2.result (c.push_expr_in-2.new.out ≡ d))
    (three_pushed _ _ _ _ _ _ _ c.in_ok-push_expr_in.ensures c.in_ok-push_bytes.ensures
    (ap (row_text c.args.lines c.args.form.now.kind c.args.form.now.open_break c.args.margin c.args.margin)
    (sym c.as_slice-row.ensures ∙ three_of c.as_slice-row.result.now c.name-item.result c.sign-item.result c.value-item.result (omega (arith, c.in-len3.len_at_least, c.in-len3.len_below)) c.name-item.is c.sign-item.is c.value-item.is) ∙
    c.is_assignment.ensures c.if-is_assignment.true c.args.lines c.args.margin))
    c.push_expr_in-2.ensures

pub push_stacked-loop-i-preserved : goal.push_stacked-loop-i-preserved
push_stacked-loop-i-preserved t c =
    stacked_turn c.args.lines c.args.form.now.kind _ c.args.margin c.args.closer c.args.form.now.seq.end c.as_slice-items.result.now _ c.loop-i.i c.index-items-i.result _ _ _ _ _ _ _
    (item_begun c.args.lines c.args.form.now.kind _ c.args.margin c.as_slice-items.result.now _ c.loop-i.i _ c.index-items-i.result _ _ _ _ _ c.in_ok-inner.ensures c.loop-i-test.true c.index-items-i.is refl (c.before-in-loop-i.ensures ∙ ap (λ (z : HostComments). z.before) c.comments.ensures) c.in_ok-push_new_line.ensures c.in_ok-push_above.ensures c.in_ok-push_expr_in.ensures)
    (sym c.is_closed.ensures ∙ c.if-is_closed.false) c.comma_before.ensures c.in_ok-push_bytes.ensures (c.suffix.ensures ∙ ap (λ (z : HostComments). z.suffix) c.comments-in-loop-i.ensures) c.in_ok-push_after.ensures c.loop-i.invariant

pub push_stacked-returns-then-is_closed : goal.push_stacked-returns-then-is_closed
push_stacked-returns-then-is_closed t c =
    subst (λ d. OnOk c.push.result (c.push.new.self ≡ d))
    (stacked_closed c.args.lines c.args.form.now.kind _ c.args.margin c.args.closer c.args.form.now.seq.end c.as_slice-items.result.now _ c.loop-i.i c.index-items-i.result _ _ _
    (item_begun c.args.lines c.args.form.now.kind _ c.args.margin c.as_slice-items.result.now _ c.loop-i.i _ c.index-items-i.result _ _ _ _ _ c.in_ok-inner.ensures c.loop-i-test.true c.index-items-i.is refl (c.before-in-loop-i.ensures ∙ ap (λ (z : HostComments). z.before) c.comments.ensures) c.in_ok-push_new_line.ensures c.in_ok-push_above.ensures c.in_ok-push_expr_in.ensures)
    (sym c.is_closed.ensures ∙ c.if-is_closed.true)
    (c.loop-i.invariant ∙ ap (λ xs. pushed c.args.out.now (stacked_text c.args.lines c.args.form.now.kind c.args.margin c.args.closer c.args.form.now.seq.end xs)) c.as_slice-items.ensures))
    c.push.ensures
