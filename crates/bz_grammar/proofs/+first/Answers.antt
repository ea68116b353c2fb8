use Rattle.bz_grammar.proofs.Statements.{first_here, first_later}
use Rattle.bz_grammar.proofs.+first.Goals as goal

pub statement::first_of-returns-in-Some : goal.statement::first_of-returns-in-Some
statement::first_of-returns-in-Some t c =
    first_here c.args.parts.now c.loop-part.part-index c.part-item.result c.in-Some.leaf.now _ c.loop-part-test.true c.part-item.is c.in-Some.ensures c.loop-part.invariant

pub statement::first_of-loop-part-preserved : goal.statement::first_of-loop-part-preserved
statement::first_of-loop-part-preserved t c =
    first_later c.args.parts.now c.loop-part.part-index c.part-item.result _ c.loop-part-test.true c.part-item.is c.in_default.ensures c.loop-part.invariant
