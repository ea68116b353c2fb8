use Rattle.bz_buildozer.proofs.FileNames.{packages_apart}
use Rattle.bz_buildozer.proofs.laws.packages_are_apart.Goals as goal

pub returns : goal.returns
returns c = packages_apart
