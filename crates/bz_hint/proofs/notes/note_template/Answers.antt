use Rattle.bz_streams.proofs.Outputs.{reports_more}
use Rattle.bz_hint.proofs.notes.note_template.Goals as goal

pub returns : goal.returns
returns g c =
    let sink = g.E.Sink in
    let mid = c.note_missing_group.new.err in
    let new = c.note_escaped_digit.new.err in
    reports_more (sink.faults c.args.err.now) (sink.faults mid) (sink.faults new) (sink.contents c.args.err.now) (sink.contents mid) (sink.contents new) _ _ c.note_missing_group.ensures c.note_escaped_digit.ensures
