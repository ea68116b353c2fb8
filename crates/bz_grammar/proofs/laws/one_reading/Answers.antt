use Rattle.std.proofs.Common.{sym, ◌∙◌}
use Rattle.bz_grammar.proofs.Unique.{one_tree}
use Rattle.bz_grammar.proofs.laws.one_reading.Goals as goal

pub returns : goal.returns
returns c = λ text tree other reads others. one_tree tree other reads.0 others.0 (reads.1 ∙ sym others.1)
