use Rattle.bz_buildozer.proofs.ExactOutcomes.{exact}
use Rattle.bz_buildozer.proofs.laws.outcomes_are_exact.Goals as goal

pub returns : goal.returns
returns c = exact c.one_reading.ensures
