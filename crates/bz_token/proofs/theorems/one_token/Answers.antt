use Rattle.bz_token.proofs.Laws.{one_token}
use Rattle.bz_token.proofs.theorems.one_token.Goals as goal

pub returns : goal.returns
returns c = one_token
