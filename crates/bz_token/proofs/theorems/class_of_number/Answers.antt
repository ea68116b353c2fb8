use Rattle.bz_token.proofs.Rows.{class_of_number}
use Rattle.bz_token.proofs.theorems.class_of_number.Goals as goal

pub returns : goal.returns
returns c = class_of_number
