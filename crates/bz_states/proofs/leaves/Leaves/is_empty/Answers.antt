use Rattle.std.proofs.Common.{sym, ◌∙◌}
use Rattle.bz_states.proofs.Cutting.{some_full, none_empty}
use Rattle.bz_states.proofs.leaves.Leaves.is_empty.Goals as goal

pub returns-in-Some : goal.returns-in-Some
returns-in-Some c = some_full _ _ _ c.self.view_is _ c.self.invariant.0 _ (sym c.next_of.ensures ∙ c.in-Some.is)

pub returns-in-None : goal.returns-in-None
returns-in-None c = none_empty _ _ _ c.self.view_is _ c.self.invariant.0 (sym c.next_of.ensures ∙ c.in-None.is)
