use Rattle.bz_buildozer.proofs.ReadSteps.{fronts_alike}
use Rattle.bz_buildozer.proofs.laws.fronts_are_reported_alike.Goals as goal

pub returns : goal.returns
returns c = fronts_alike
