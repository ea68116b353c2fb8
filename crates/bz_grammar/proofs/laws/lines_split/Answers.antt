use Rattle.bz_grammar.proofs.Split.{lines_split}
use Rattle.bz_grammar.proofs.laws.lines_split.Goals as goal

pub returns : goal.returns
returns c = lines_split
