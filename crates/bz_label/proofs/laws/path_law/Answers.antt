use Rattle.bz_label.proofs.Paths.{joined_exact}
use Rattle.bz_label.proofs.laws.path_law.Goals as goal

pub returns : goal.returns
returns c = joined_exact
