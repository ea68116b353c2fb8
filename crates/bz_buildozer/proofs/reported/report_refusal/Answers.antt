use Rattle.bz_buildozer.proofs.reported.report_refusal.Goals as goal

pub returns : goal.returns
returns g c = rw (c.name-name.ensures, c.format-number.ensures.text, c.number.ensures, c.history_hint-hint.ensures) at c.report_numbered.ensures
