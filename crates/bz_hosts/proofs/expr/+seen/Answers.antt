use Rattle.bz_hosts.proofs.Words.{[], ◌++◌, ◌+◌, ◌∙◌, ◌∷◌, ◌≡◌, ap, append-nil, arith, drop, first_seen_gap, frame, map, Part, refl, seen, sym, take_all}
use Rattle.bz_value.specs.declared.value.Expr.TheVariants as e
use Rattle.bz_hosts.proofs.HostSteps.{item_more, items_done}
use Rattle.bz_hosts.proofs.NodeViews.{node_pushed, node_loose, sequence_made}
use Rattle.bz_hosts.proofs.RowSteps.{seen_here, gap_inside, gap_at_first, gap_at_later, row_more, row_done, loose_done, loose_more, head_row, bracket_loose, most_taken}
use Rattle.bz_hosts.proofs.expr.+seen.Goals as goal
use Rattle.bz_hosts.proofs.expr.+seen.Goals.{head_of-then-lead-gt0+in_ok-push_gap, head_of-else-lead-gt0, head_of-in-Node+in_ok-push_form, head_of-in_default}

pub push_expr-returns-in_ok-push_form-in-Node-clause-exprs : goal.push_expr-returns-in_ok-push_form-in-Node-clause-exprs
push_expr-returns-in_ok-push_form-in-Node-clause-exprs t c = node_pushed c.args.part.now c.in-Node.node c.args.line_break c.args.exprs.now.items _ c.in-Node.is c.in_ok-push_form-in-Node.ensures.exprs

pub push_expr-returns-in_ok-push_form-in-Node-clause-loose : goal.push_expr-returns-in_ok-push_form-in-Node-clause-loose
push_expr-returns-in_ok-push_form-in-Node-clause-loose t c = node_loose c.args.part.now c.in-Node.node c.args.loose.now _ c.in-Node.is c.in_ok-push_form-in-Node.ensures.loose

pub push_parts-returns-then-is_sequence-clause-exprs : goal.push_parts-returns-then-is_sequence-clause-exprs
push_parts-returns-then-is_sequence-clause-exprs t c =
    c.push_reserved.ensures.items ∙ (ap (λ es. es ++ c.form_of.result ∷ []) c.in_ok-reserve.ensures.items ∙ ap (λ x. c.args.exprs.now.items ++ x ∷ []) (c.form_of.ensures ∙
    ap e.Form (sequence_made (frame c.args.kind) c.args.kind c.args.parts.now c.args.parts.now _ _ _ _ (sym c.is_sequence.ensures ∙ c.if-is_sequence.true) refl c.lead_of-lead.ensures.value
    c.in_ok-head.ensures.exprs c.in_ok-seq.ensures refl)))

pub row_of-loop-at-preserved : goal.row_of-loop-at-preserved
row_of-loop-at-preserved t c =
    let here = seen_here c.args.parts.now c.loop-at.at c.index-parts-at.result c.loop-at-test.true c.index-parts-at.is in
    record {
      exprs = row_more _ _ _ _ _ _ _ _ _ _ _ _ _ here c.is_operator_in-operator.ensures c.breaks_operator-newline.ensures c.breaks_after-line_break.ensures refl c.loop-at.invariant.exprs c.in_ok-push_expr.ensures.exprs;
      loose = loose_more _ _ _ _ _ _ _ here c.in_ok-push_expr.ensures.loose c.in_ok-push_gap.ensures c.loop-at.invariant.loose;
    }

pub row_of-returns-clause-exprs : goal.row_of-returns-clause-exprs
row_of-returns-clause-exprs t c = row_done c.args.parts.now c.loop-at.at _ _ _ _ _ _ (omega arith) c.from_vec.ensures c.loop-at.invariant.exprs

pub row_of-returns-clause-loose : goal.row_of-returns-clause-loose
row_of-returns-clause-loose t c = loose_done c.args.parts.now c.loop-at.at _ _ (omega arith) c.loop-at.invariant.loose

pub seq_of-loop-above-preserved : goal.seq_of-loop-above-preserved
seq_of-loop-above-preserved t c =
    let ps = c.args.parts.now in
    let turn = item_more ps ps (drop (c.loop-above.at + 2) ps) c.loop-above.at c.index-parts-at.result c.loop-above.above c.push_expr.new.loose c.comment_last.new.above c.loop-above.items.items c.push_expr.new.exprs.items c.comment_last.new.items.items
    (c.is_followed.ensures.yes c.loop-above-test.true) c.index-parts-at.is refl refl c.in_ok-push_expr.ensures.loose c.in_ok-push_expr.ensures.exprs c.in_ok-comment_last.ensures.above c.in_ok-comment_last.ensures.items in
    record { items = turn.0 ∙ c.loop-above.invariant.items; end = turn.1 ∙ c.loop-above.invariant.end }

pub seq_of-returns : goal.seq_of-returns
seq_of-returns t c =
    items_done c.args.parts.now (drop c.args.from c.args.parts.now) c.loop-above.at c.loop-above.above _ c.loop-above.items.items _ _ (omega arith) c.in_ok-new.ensures c.from_vec.ensures c.loop-above.invariant.items c.loop-above.invariant.end c.breaks_from.ensures

pub head_of-row_of-requires-2 : goal.head_of-row_of-requires-2
head_of-row_of-requires-2 t c = (grind (arith, most_taken), tt)

pub head_of-returns-then-lead-parts-clause-exprs : goal.head_of-returns-then-lead-parts-clause-exprs
head_of-returns-then-lead-parts-clause-exprs t c = head_row c.args.parts.now _ c.args.lead _ (sym (take_all c.args.lead c.args.parts.now (omega arith))) c.in_ok-exprs.ensures.exprs

pub head_of-returns-clause-exprs : goal.head_of-returns-clause-exprs
head_of-returns-clause-exprs t c = head_row c.args.parts.now _ c.args.lead _ refl c.in_ok-exprs-2.ensures.exprs

pub head_of-returns-clause-loose : goal.head_of-returns-clause-loose
head_of-returns-clause-loose t c =
    let part = c.index-parts-lead.result in
    let outside = c.in_ok-exprs-2.ensures.loose in
    let gap : c.if-lead-gt0.loose ≡ c.row_of-2.new.loose ++ gap_inside c.args.lead (first_seen_gap (map seen (drop c.args.lead c.args.parts.now))) =
    elim c.if-lead-gt0.branch [
      | head_of-then-lead-gt0+in_ok-push_gap w ↦ w.loose-is ∙ gap_at_later c.args.lead _ _ _ w.if-lead-gt0.true w.in_ok-push_gap.ensures
      | head_of-else-lead-gt0 w ↦ w.loose-is ∙ gap_at_first c.args.lead _ _ w.if-lead-gt0.false
    ] in
    let own : c.match-parts-lead.loose ≡ c.if-lead-gt0.loose ++ (seen part).loose =
    elim c.match-parts-lead.branch [
      | head_of-in-Node+in_ok-push_form w ↦ w.loose-is ∙ node_loose part _ _ _ w.in-Node.is w.in_ok-push_form.ensures.loose
      | head_of-in_default w ↦ w.loose-is ∙ (sym (append-nil c.if-lead-gt0.loose) ∙ ap (λ (x : Part). c.if-lead-gt0.loose ++ (seen x).loose) (sym w.in_default.is))
    ] in
    bracket_loose c.args.parts.now _ c.args.lead part c.args.loose.now _ _ _ (omega arith) c.index-parts-lead.is refl outside gap own
