use Rattle.bz_streams.proofs.Outputs.{reports_more}
use Rattle.bz_hint.proofs.notes.note_setting.Goals as goal

pub returns : goal.returns
returns g c =
    let sink = g.E.Sink in
    let mid = c.note_quoted.new.err in
    let new = c.note_leading_zero.new.err in
    rw (c.has_quoted.ensures, c.is_odd_number.ensures) at
    (reports_more (sink.faults c.args.err.now) (sink.faults mid) (sink.faults new) (sink.contents c.args.err.now) (sink.contents mid) (sink.contents new) _ _ c.note_quoted.ensures c.note_leading_zero.ensures)
