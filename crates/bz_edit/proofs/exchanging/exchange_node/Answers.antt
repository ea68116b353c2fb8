use Rattle.bz_edit.proofs.Words.{◌∙◌, all_there, ap, length, refl, sym, turned_all}
use Rattle.bz_edit.proofs.Turn.{apart_there, step_there}
use Rattle.bz_edit.proofs.exchanging.exchange_node.Goals as goal

pub swap_each-requires-clause-apart : goal.swap_each-requires-clause-apart
swap_each-requires-clause-apart c = apart_there c.step.inside.edits c.as_mut_slice.result.now c.step.invariant c.as_mut_slice.ensures.value

pub invariant_of-step-then-all_even : goal.invariant_of-step-then-all_even
invariant_of-step-then-all_even c =
    let es = c.step.inside.edits in
    let value = c.as_mut_slice.ensures.value in
    let there = ap (λ l. all_there l c.args.node.now) (sym c.as_slice.ensures) ∙ sym c.all_places.ensures ∙ c.if-not-all_places.false in
    step_there c.args.node.now es es c.swap_each.new.edits (length es) c.step.invariant there c.requires refl (c.in_ok-swap_each.ensures.edits ∙ ap (turned_all c.args.node.now) value) refl (c.swap_each.auto.edits ∙ ap length value)
