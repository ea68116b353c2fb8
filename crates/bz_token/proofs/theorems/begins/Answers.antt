use Rattle.bz_token.proofs.Laws.{begins}
use Rattle.bz_token.proofs.theorems.begins.Goals as goal

pub returns : goal.returns
returns c = begins
