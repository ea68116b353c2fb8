use Rattle.bz_passes.proofs.Words.{◌∙◌, ap, argument_precedes, arguments_changed, arith, attribute_changed, dotted_name, on_attribute, rules, sort_by}
use Rattle.bz_passes.proofs.{EachChanged.all_turned, Settling.of_same_kind}
use Rattle.bz_passes.proofs.walk.change_called.Goals as goal

pub returns : goal.returns
unfolding arguments_changed
returns c =
    let kind = c.kind_of-kind.result.now in
    let change = on_attribute (attribute_changed kind) in
    c.in_ok-sort_runs.ensures
    ∙ (ap (sort_by argument_precedes) (all_turned change c.loop-x.arguments _ c.loop-x.x-index (omega arith) c.loop-x.invariant)
    ∙ of_same_kind (dotted_name c.args.function.now) kind c.args.arguments.now (search rules) c.kind_of-kind.ensures)
