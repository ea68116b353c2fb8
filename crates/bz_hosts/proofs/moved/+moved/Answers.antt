use Rattle.bz_hosts.proofs.Words.{[], ◌++◌, ◌+◌, ◌<◌, ◌∙◌, ◌∷◌, ◌≤◌, ap, arith, drop, drop-set-lt, frame, is_split, length, List, map, Part, plain, refl, seen, subst, sym, take}
use Rattle.bz_grammar.specs.declared.tree.Part.TheVariants as p
use Rattle.bz_value.specs.declared.value.Expr.TheVariants as e
use Rattle.bz_hosts.proofs.HostSteps.{item_more, items_done}
use Rattle.bz_hosts.proofs.NodeViews.{node_pushed, node_loose, sequence_made}
use Rattle.bz_hosts.proofs.moved.+moved.Goals as goal

pub push_moved-returns-in_ok-push_form_moved-in-Node-clause-exprs : goal.push_moved-returns-in_ok-push_form_moved-in-Node-clause-exprs
push_moved-returns-in_ok-push_form_moved-in-Node-clause-exprs t c = node_pushed c.args.part.now _ c.args.line_break c.args.exprs.now.items _ (c.in-Node.is ∙ ap p.Node (sym c.in-Node.node-is)) c.in_ok-push_form_moved-in-Node.ensures.exprs

pub push_moved-returns-in_ok-push_form_moved-in-Node-clause-loose : goal.push_moved-returns-in_ok-push_form_moved-in-Node-clause-loose
push_moved-returns-in_ok-push_form_moved-in-Node-clause-loose t c = node_loose c.args.part.now _ c.args.loose.now _ (c.in-Node.is ∙ ap p.Node (sym c.in-Node.node-is)) c.in_ok-push_form_moved-in-Node.ensures.loose

pub seq_moved-loop-left-preserved : goal.seq_moved-loop-left-preserved
seq_moved-loop-left-preserved t c =
    let ps = c.loop-left.left.items in
    let at = c.loop-left.at in
    let more : at + 1 < length ps = subst (λ (rs : List Part). at + 1 < length rs) c.as_slice-in-loop-left.ensures.value (c.is_followed.ensures.yes c.loop-left-test.true) in
    let turn = item_more ps c.as_slice-in-loop-left-2.result.now _ at c.index_mut.result.now c.loop-left.above c.push_moved.new.loose c.comment_last.new.above c.loop-left.items.items c.push_moved.new.exprs.items c.comment_last.new.items.items
    more c.index_mut.ensures.value (ap (drop (at + 1)) c.as_slice-in-loop-left-2.ensures.value ∙ drop-set-lt (at + 1) ps at _ (omega arith)) (c.give_back-at.ensures.rest ∙ drop-set-lt (at + 2) ps at _ (omega arith)) c.in_ok-push_moved.ensures.loose c.in_ok-push_moved.ensures.exprs
    c.in_ok-comment_last.ensures.above c.in_ok-comment_last.ensures.items in
    record { items = turn.0 ∙ c.loop-left.invariant.items; end = turn.1 ∙ c.loop-left.invariant.end }

pub push_form_moved-returns-then-is_sequence-clause-exprs : goal.push_form_moved-returns-then-is_sequence-clause-exprs
push_form_moved-returns-then-is_sequence-clause-exprs t c =
    c.push_reserved.ensures.items ∙ (ap (λ es. es ++ c.form_of.result ∷ []) c.in_ok-reserve.ensures.items ∙ ap (λ x. c.args.exprs.now.items ++ x ∷ []) (c.form_of.ensures ∙
    ap e.Form (sequence_made (frame c.args.node.now.kind) c.args.node.now.kind c.args.node.now.parts c.replace-parts.result _ _ _ _ (sym c.is_sequence.ensures ∙ c.if-is_sequence.true) c.replace-parts.ensures.value c.lead_of-lead.ensures.value
    (c.in_ok-head.ensures.exprs ∙ ap (λ (rs : List Part). map plain (take c.lead_of-lead.result (map seen rs))) c.as_slice.ensures) c.in_ok-seq.ensures refl)))

pub seq_moved-returns : goal.seq_moved-returns
seq_moved-returns t c =
    let last : length c.loop-left.left.items ≤ c.loop-left.at + 1 = subst (λ (ps : List Part). length ps ≤ c.loop-left.at + 1) c.as_slice-in-loop-left.ensures.value (c.is_followed.ensures.no c.loop-left-test.false) in
    items_done c.loop-left.left.items (drop c.args.from c.args.parts) c.loop-left.at c.loop-left.above _ c.loop-left.items.items _ _ last c.in_ok-new.ensures c.from_vec.ensures c.loop-left.invariant.items c.loop-left.invariant.end
    (c.breaks_from-split.ensures ∙ ap (λ (ps : List Part). is_split (map seen (drop c.args.from ps))) c.as_slice.ensures)
