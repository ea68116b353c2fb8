use Rattle.bz_edit.proofs.Words.{◌∙◌, ◌≡◌, ap, IsStep, length, refl, subst, turned_all}
use Rattle.bz_edit.proofs.Turn.{apart_there, step_there}
use Rattle.bz_edit.proofs.exchanging.cross_one.Goals as goal

pub swap_each-requires-clause-apart : goal.swap_each-requires-clause-apart
swap_each-requires-clause-apart c = apart_there c.step.inside.edits c.as_mut_slice.result.now c.step.invariant (c.as_mut_slice.ensures.value ∙ c.replace-edits.ensures.value)

pub invariant_of-step-2 : goal.invariant_of-step-2
invariant_of-step-2 c =
    let kept : length c.swap_each.new.edits ≡ length c.replace-edits.result = c.swap_each.auto.edits ∙ ap length c.as_mut_slice.ensures.value in
    step_there c.args.node.now c.args.step.now c.replace-edits.result c.swap_each.new.edits (length c.replace-edits.result) (subst IsStep c.step.view_is c.step.invariant) c.requires.there c.requires.short
    (c.replace-edits.ensures.value ∙ c.step.view_is) (c.in_ok-swap_each.ensures.edits ∙ ap (turned_all c.args.node.now) c.as_mut_slice.ensures.value) refl kept
