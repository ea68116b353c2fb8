use Rattle.bz_streams.proofs.Imported.{ap, drop_all, flat_map, line_piece_text}
use Rattle.bz_streams.proofs.Written.{all_written, goes_on, left-cons, stops}
use Rattle.bz_streams.proofs.pieces.write_pieces.Goals as goal

pub loop-piece-preserved : goal.loop-piece-preserved
loop-piece-preserved g c =
    goes_on _ _ c.loop-piece.invariant (ap (flat_map line_piece_text) (left-cons c.args.pieces.now c.loop-piece.piece-index _ c.loop-piece-test.true)) c.in-Ok.ensures

pub returns-in-Err : goal.returns-in-Err
returns-in-Err g c =
    stops _ _ c.loop-piece.invariant (ap (flat_map line_piece_text) (left-cons c.args.pieces.now c.loop-piece.piece-index _ c.loop-piece-test.true)) c.in-Err.ensures

pub returns : goal.returns
returns g c = all_written c.loop-piece.invariant (ap (flat_map line_piece_text) (drop_all c.loop-piece.piece-index c.args.pieces.now c.loop-piece-test.false))
