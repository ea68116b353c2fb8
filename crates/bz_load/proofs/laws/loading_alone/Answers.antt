use Rattle.bz_load.proofs.ReplacedAgain.{replaced_alone}
use Rattle.bz_load.proofs.laws.loading_alone.Goals as goal

pub returns : goal.returns
returns c = replaced_alone
