use Rattle.bz_token.proofs.Rows.{each_keyword}
use Rattle.bz_token.proofs.theorems.each_keyword.Goals as goal

pub returns : goal.returns
returns c = each_keyword
