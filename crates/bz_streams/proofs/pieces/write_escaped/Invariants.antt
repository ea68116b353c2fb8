use Rattle.bz_streams.proofs.Imported.{escaped_text, length}
use Rattle.bz_streams.proofs.Written.{SoFar}
use Rattle.bz_streams.proofs.pieces.write_escaped.Given as goal

abbrev pub invariant-loop-plain : goal.invariant-loop-plain
invariant-loop-plain g l =
    SoFar (g.E.Sink.faults l.fn.err) (g.E.Sink.faults l.err) (g.E.Sink.contents l.fn.err) (g.E.Sink.contents l.err) (escaped_text l.text) (escaped_text l.left)

abbrev pub decreases-loop-plain : goal.decreases-loop-plain
decreases-loop-plain g l = length l.left
