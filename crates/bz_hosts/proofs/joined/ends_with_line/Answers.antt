use Rattle.bz_hosts.proofs.Words.{◌∙◌, after_first_line, ap, bytes_eq-Decides, empty_list, lines_of, sym}
use Rattle.bz_hosts.proofs.JoinedLines.{line_last}
use Rattle.bz_hosts.proofs.joined.ends_with_line.Goals as goal

pub returns-then-eq : goal.returns-then-eq
returns-then-eq c h =
    line_last c.args.tree.now c.in-Some-Node-default.line c.in-Some-Node-default.field-0-1.now c.in-Some-Leaf-default.lines.now c.in-Some-Leaf-default-split_last.field-0-1.now c.in-Some-Node-default.field-0-0.now
    c.in-Some-Leaf-default.field-0-0.now c.in-Some-Leaf-default-split_last.field-0-0.now c.in-Some-Leaf-default.end c.in-Some-Leaf-default-split_last.newline
    (ap (λ n. n.parts) (sym c.tree.view_is) ∙ (sym c.as_slice.ensures ∙ c.in-Some-Leaf-default.ensures.cases.0)) c.in-Some-Node-default.ensures.cases.0
    (ap (λ n. n.parts) (sym c.in-Some-Node-default.line-is) ∙ (sym c.as_slice-2.ensures ∙ c.in-Some-Leaf-default-split_last.ensures.cases.0))
    c.in-Some-Leaf-default.field-0-0-is c.in-Some-Node-default.field-0-0-is c.in-Some-Leaf-default-split_last.field-0-0-is
    (ap (λ l. l.gap) (sym c.in-Some-Leaf-default.end-is) ∙ (sym c.as_slice-3.ensures ∙ empty_list c.as_slice-3.result.now c.is_empty.result c.is_empty.ensures c.if-not-is_empty.false))
    (ap (λ l. l.token) (sym c.in-Some-Leaf-default-split_last.newline-is) ∙ (sym c.as_slice-4.ensures ∙ ((bytes_eq-Decides c.as_slice-4.result.now c.as_slice-5.result.now).0 (sym c.if-eq.ensures) ∙ c.as_slice-5.ensures)))
    (ap (λ l. after_first_line (lines_of l.gap)) (sym c.in-Some-Leaf-default-split_last.newline-is) ∙
    (ap (λ g. after_first_line (lines_of g)) (sym c.as_slice-then-eq.ensures) ∙ (sym c.past_first_line.ensures ∙ ap lines_of (empty_list c.past_first_line.result.now c.is_empty-then-eq.result c.is_empty-then-eq.ensures h))))
