use Rattle.bz_hosts.proofs.Words.{◌++◌, ◌∙◌, ap, Item, lines_of, List, ReadStatements, sym}
use Rattle.bz_hosts.proofs.FileSteps.{line_part}
use Rattle.bz_hosts.proofs.suites.push_part.Goals as goal

pub returns-then-is_kind-clause-left : goal.returns-then-is_kind-clause-left
returns-then-is_kind-clause-left c =
    c.in_ok-left.ensures.rest
    ∙ ap (λ (r : ReadStatements (List Item)). r.1) (line_part c.args.part.now c.in-Node.node c.as_slice.result.now c.in-Node.is c.as_slice.ensures (sym c.is_kind.ensures ∙ c.if-is_kind.true) c.args.above (lines_of c.args.after.now))

pub returns-then-is_kind-clause-items : goal.returns-then-is_kind-clause-items
returns-then-is_kind-clause-items c =
    c.in_ok-left.ensures.items
    ∙ ap (λ (r : ReadStatements (List Item)). c.args.items.now ++ r.0) (line_part c.args.part.now c.in-Node.node c.as_slice.result.now c.in-Node.is c.as_slice.ensures (sym c.is_kind.ensures ∙ c.if-is_kind.true) c.args.above (lines_of c.args.after.now))
