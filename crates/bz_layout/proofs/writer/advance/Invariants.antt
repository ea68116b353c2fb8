use Rattle.bz_layout.specs.private.Reached.{Passes}
use Rattle.bz_layout.proofs.writer.advance.Given as goal

abbrev pub invariant-loop-at : goal.invariant-loop-at
invariant-loop-at l = Passes l.each_is_line l.parts l.count l.at l.items l.fn.writer l.writer
