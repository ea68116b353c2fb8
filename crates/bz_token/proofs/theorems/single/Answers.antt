use Rattle.bz_token.proofs.Laws.{single}
use Rattle.bz_token.proofs.theorems.single.Goals as goal

pub returns : goal.returns
returns c = single
