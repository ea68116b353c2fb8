use Rattle.bz_grammar.proofs.laws.one_file.Goals as goal
use Rattle.bz_grammar.proofs.Unique.{one_file}

pub returns : goal.returns
returns c = one_file
