use Rattle.bz_token.proofs.Rows.{each_number}
use Rattle.bz_token.proofs.theorems.each_number.Goals as goal

pub returns : goal.returns
returns c = each_number
