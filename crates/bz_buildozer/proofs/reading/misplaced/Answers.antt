use Rattle.bz_buildozer.proofs.reading.misplaced.Goals as goal

pub returns-clause-reported : goal.returns-clause-reported
returns-clause-reported g c = rw (c.shown_package.ensures) at c.fail_with_hint.ensures.reported
