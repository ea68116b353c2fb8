use Rattle.std.proofs.Common.{refl}
use Rattle.bz_rule.proofs.laws.worked_bodies.Goals as goal

pub returns : goal.returns
returns c = (refl, refl, refl, refl, refl, refl, refl, refl)
