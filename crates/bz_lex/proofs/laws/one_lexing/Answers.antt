use Rattle.bz_lex.proofs.Unique.{one_lexing}
use Rattle.bz_lex.proofs.laws.one_lexing.Goals as goal

pub returns : goal.returns
returns c = one_lexing
