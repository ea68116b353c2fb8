use Rattle.bz_states.proofs.Words.{◌∙◌, after_token, ap, sym}
use Rattle.bz_states.proofs.Cutting.{first_skipped, none_skipped}
use Rattle.bz_states.proofs.leaves.Leaves.skip.Goals as goal

pub returns-in-Some : goal.returns-in-Some
returns-in-Some c = first_skipped _ _ _ c.self.view_is _ c.self.invariant.0 c.in-Some.front _ _ (sym c.next_of.ensures ∙ c.in-Some.is) (c.after_token-place.ensures ∙ ap (λ t. after_token c.in-Some.front.class t c.self.inside.place) c.token_of.ensures) c.rest_of-rest.ensures

pub returns-in_default : goal.returns-in_default
returns-in_default c = none_skipped _ _ _ c.self.view_is _ c.self.invariant.0 (sym c.next_of.ensures ∙ c.in_default.is)
