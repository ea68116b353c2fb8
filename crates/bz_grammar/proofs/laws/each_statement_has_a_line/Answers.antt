use Rattle.bz_grammar.proofs.Stated.{each_statement}
use Rattle.bz_grammar.proofs.laws.each_statement_has_a_line.Goals as goal

pub returns : goal.returns
returns c = each_statement
