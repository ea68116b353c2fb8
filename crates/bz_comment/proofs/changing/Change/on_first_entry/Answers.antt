use Rattle.bz_comment.proofs.HostForms.{changed_nowhere, changed_there}
use Rattle.bz_comment.proofs.changing.Change.on_first_entry.Goals as goal

pub returns-in_ok-on_branch : goal.returns-in_ok-on_branch
returns-in_ok-on_branch c = changed_there _ _ _ _ _ _ _ c.in-Some.ensures c.as_slice.ensures c.at_mut.ensures.value c.in_ok-on_branch.ensures

pub returns-in_default : goal.returns-in_default
returns-in_default c = changed_nowhere _ _ _ _ c.in_default.ensures c.as_slice.ensures
