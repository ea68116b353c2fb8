use Rattle.bz_streams.proofs.Imported.{◌∙◌, escape}
use Rattle.bz_streams.proofs.{Written.ended, Written.goes_on, Written.stops, ControlSteps.shown_next}
use Rattle.bz_streams.proofs.pieces.write_escaped.Goals as goal

pub loop-plain-preserved : goal.loop-plain-preserved
loop-plain-preserved g c =
    goes_on _ _ c.loop-plain.invariant (shown_next _ _ _ _ _ (c.in-Some.ensures.cut escape) (c.as_slice.ensures.value ∙ c.escape.ensures)) c.in-Ok.ensures

pub returns-in-Err : goal.returns-in-Err
returns-in-Err g c =
    stops _ _ c.loop-plain.invariant (shown_next _ _ _ _ _ (c.in-Some.ensures.cut escape) (c.as_slice.ensures.value ∙ c.escape.ensures)) c.in-Err.ensures

pub returns : goal.returns
returns g c =
    ended c.write_part.result (g.E.Sink.faults c.write_part.new.err) (g.E.Sink.contents c.write_part.new.err) c.loop-plain.invariant
    (rw (c.in_default.ensures.cut escape) c.write_part.ensures)
