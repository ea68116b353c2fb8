use Rattle.bz_buildozer.proofs.ReadSteps.{held_go_on}
use Rattle.bz_buildozer.proofs.laws.held_files_go_on.Goals as goal

pub returns : goal.returns
returns c = held_go_on
