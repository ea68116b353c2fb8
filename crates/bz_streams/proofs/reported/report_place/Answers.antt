use Rattle.bz_streams.proofs.reported.report_place.Goals as goal

pub returns : goal.returns
returns g c = rw (c.format-line.ensures.text, c.format-column.ensures.text) at c.report_spot.ensures
