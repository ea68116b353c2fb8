use Rattle.bz_streams.proofs.reported.report_fault_above.Goals as goal

pub returns-in-Some : goal.returns-in-Some
returns-in-Some g c = rw (← c.in-Some.ensures, ← c.fault_word-word.ensures) c.report_place.ensures

pub returns-in-NotUtf8 : goal.returns-in-NotUtf8
returns-in-NotUtf8 g c = rw (c.in-NotUtf8.is) (rw (c.format-at.ensures.text, c.fault_sense.ensures.text, c.in-NotUtf8.is) at c.report_word.ensures)
