use Rattle.bz_hosts.proofs.Words.{◌∙◌, ap, empty_list, sym}
use Rattle.bz_hosts.proofs.JoinedFiles.{ends_in_line}
use Rattle.bz_hosts.proofs.joined.ends_in_line.Goals as goal

pub returns-then-is_empty : goal.returns-then-is_empty
returns-then-is_empty c h =
    ends_in_line c.args.parts.now c.in-Some.field-0-1.now c.in-Some-Leaf-default.lines.now c.in-Some.line.now c.in-Some-Leaf-default.field-0-0.now c.in-Some-Leaf-default.end
    c.in-Some-Leaf-default.ensures.cases.0 c.in-Some.ensures.cases.0 c.in-Some-Leaf-default.field-0-0-is
    (ap (λ l. l.gap) (sym c.in-Some-Leaf-default.end-is) ∙ (sym c.as_slice.ensures ∙ empty_list c.as_slice.result.now c.is_empty.result c.is_empty.ensures c.if-is_empty.true)) (c.ends_in_newline.ensures h)
