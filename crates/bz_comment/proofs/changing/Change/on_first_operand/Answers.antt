use Rattle.bz_comment.proofs.HostForms.{changed_nowhere, changed_there}
use Rattle.bz_comment.proofs.changing.Change.on_first_operand.Goals as goal

pub returns-in_ok-on_operand : goal.returns-in_ok-on_operand
returns-in_ok-on_operand c = changed_there _ _ _ _ _ _ _ c.in-Some.ensures c.as_slice.ensures c.at_mut.ensures.value c.in_ok-on_operand.ensures

pub returns-in_default : goal.returns-in_default
returns-in_default c = changed_nowhere _ _ _ _ c.in_default.ensures c.as_slice.ensures
