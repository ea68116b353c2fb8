use Rattle.bz_buildozer.proofs.Words.{digits, refl}
use Rattle.bz_buildozer.proofs.laws.worked_refusals.Goals as goal

pub returns : goal.returns
unfolding digits
returns c = (refl, refl, refl, refl, refl, refl, refl, refl, refl, refl, refl, refl, refl, refl, refl, refl)
