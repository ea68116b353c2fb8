use Rattle.std.proofs.Common.{length}
use Rattle.bz_streams.proofs.Written.{SoFar}
use Rattle.bz_streams.proofs.sink.write_whole.Given as goal

abbrev pub invariant-loop-rest : goal.invariant-loop-rest
invariant-loop-rest g l = SoFar (g.S.Sink.faults l.fn.sink) (g.S.Sink.faults l.sink) (g.S.Sink.contents l.fn.sink) (g.S.Sink.contents l.sink) l.bytes l.rest

abbrev pub decreases-loop-rest : goal.decreases-loop-rest
decreases-loop-rest g l = length l.rest
