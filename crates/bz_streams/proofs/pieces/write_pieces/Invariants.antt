use Rattle.bz_streams.proofs.Imported.{drop, flat_map, line_piece_text}
use Rattle.bz_streams.proofs.Written.{SoFar}
use Rattle.bz_streams.proofs.pieces.write_pieces.Given as goal

abbrev pub invariant-loop-piece : goal.invariant-loop-piece
invariant-loop-piece g l =
    SoFar (g.E.Sink.faults l.fn.err) (g.E.Sink.faults l.err) (g.E.Sink.contents l.fn.err) (g.E.Sink.contents l.err)
    (flat_map line_piece_text l.pieces) (flat_map line_piece_text (drop l.piece-index l.pieces))
