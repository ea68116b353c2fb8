use Rattle.bz_lex.proofs.Coded.{coded_leaves}
use Rattle.bz_lex.proofs.laws.coded_leaves.Goals as goal

pub returns : goal.returns
returns c = coded_leaves
