use Rattle.bz_grammar.proofs.Words.{arith, gap_of}
use Rattle.bz_grammar.proofs.Statements.{gap_within, newlines_within}
use Rattle.bz_grammar.proofs.tree.Part.pass_own.Goals as goal

pub overflow_add-first : goal.overflow_add-first
overflow_add-first c = omega (arith, c.requires, c.gap_newlines.ensures, newlines_within (gap_of c.args.self.now), gap_within c.args.self.now)
