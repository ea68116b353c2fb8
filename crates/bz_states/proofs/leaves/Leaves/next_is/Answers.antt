use Rattle.bz_states.proofs.Words.{◌∙◌, ap, starts_with, terminals_of}
use Rattle.bz_states.proofs.leaves.Leaves.next_is.Goals as goal

pub returns : goal.returns
returns c = c.is.ensures ∙ c.self.invariant.1 c.args.token ∙ ap (starts_with (terminals_of c.args.token)) c.self.view_is
