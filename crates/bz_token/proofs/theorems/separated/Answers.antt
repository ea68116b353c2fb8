use Rattle.bz_token.proofs.Laws.{separated}
use Rattle.bz_token.proofs.theorems.separated.Goals as goal

pub returns : goal.returns
returns c = separated
