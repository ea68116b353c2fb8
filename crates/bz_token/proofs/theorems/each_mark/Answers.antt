use Rattle.bz_token.proofs.Rows.{each_mark}
use Rattle.bz_token.proofs.theorems.each_mark.Goals as goal

pub returns : goal.returns
returns c = each_mark
