use Rattle.std.proofs.Common.{ap, length, arith}
use Rattle.bz_grammar.proofs.Statements.{gap_is, gap_within}
use Rattle.bz_grammar.proofs.tree.Part.gap_newlines.Goals as goal

pub newlines_before-requires : goal.newlines_before-requires
newlines_before-requires c =
    omega (arith, c.requires, ap length (gap_is c.args.self.now c.in-Some.leaf.now c.in-Some.ensures), gap_within c.args.self.now)
