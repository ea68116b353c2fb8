use Rattle.std.proofs.Common.{sym, ◌∙◌}
use Rattle.bz_edit.proofs.Turn.{apart_there}
use Rattle.bz_resume.proofs.placing.swap_by_copy.Goals as goal

pub swap_each-requires-clause-apart : goal.swap_each-requires-clause-apart
swap_each-requires-clause-apart c = apart_there c.made.inside.edits c.as_mut_slice.result.now c.made.invariant (c.as_mut_slice.ensures.value ∙ (c.into_vec-edits.ensures ∙ (c.into_edits.ensures ∙ sym c.made.view_is)))
