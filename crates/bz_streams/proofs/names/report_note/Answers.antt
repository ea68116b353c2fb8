use Rattle.bz_streams.proofs.names.report_note.Goals as goal

pub returns : goal.returns
returns g c = rw (c.format-line.ensures.text) at c.report_on_line.ensures
