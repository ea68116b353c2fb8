use Rattle.std.proofs.Common.{refl}
use Rattle.bz_states.proofs.Cutting.{first_answered, none_answered}
use Rattle.bz_states.proofs.leaves.symbol_at.Goals as goal

pub returns-in-Some : goal.returns-in-Some
returns-in-Some c = first_answered _ _ _ refl _ c.requires _ _ _ c.in-Some.is c.token_of.ensures c.of.ensures

pub returns-in-None : goal.returns-in-None
returns-in-None c = none_answered _ _ _ refl _ c.requires _ c.in-None.is refl
