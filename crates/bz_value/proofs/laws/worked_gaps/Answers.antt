use Rattle.std.proofs.Common.{refl}
use Rattle.bz_value.proofs.laws.worked_gaps.Goals as goal

pub returns : goal.returns
returns c = ((refl, (refl, refl, refl)), (refl, (refl, refl, refl), refl, (refl, refl, refl)), (refl, refl), refl, (refl, refl, refl), (refl, refl, (refl, refl, refl)))
