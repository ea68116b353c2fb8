use Rattle.std.proofs.Common.{refl, sym, ◌∙◌}
use Rattle.bz_states.proofs.Cutting.{first_taken, first_within, none_comes}
use Rattle.bz_states.proofs.leaves.Leaves.next_front.Goals as goal

pub returns-in-None : goal.returns-in-None
returns-in-None c = none_comes _ _ _ c.self.view_is _ c.self.invariant.0 (sym c.next_of.ensures ∙ c.in-None.is)

pub returns-in-Some : goal.returns-in-Some
returns-in-Some c =
    let comes = sym c.next_of.ensures ∙ c.in-Some.is in
    (first_within _ _ _ c.self.view_is _ c.self.invariant.0 _ comes, first_taken _ _ _ c.self.view_is _ c.self.invariant.0 _ _ _ comes refl refl)
