use Rattle.bz_token.proofs.Opening.{opens_after_prefix}
use Rattle.bz_token.proofs.theorems.opens_after_prefix.Goals as goal

pub returns : goal.returns
returns c = opens_after_prefix
