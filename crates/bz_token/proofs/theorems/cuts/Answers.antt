use Rattle.bz_token.proofs.Rows.{cuts}
use Rattle.bz_token.proofs.theorems.cuts.Goals as goal

pub returns : goal.returns
returns c = cuts
