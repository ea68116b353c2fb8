use Rattle.bz_buildozer.proofs.Words.{◌∙◌, opened_in, sym}
use Rattle.bz_buildozer.proofs.ActSteps.{reported_by}
use Rattle.bz_buildozer.proofs.acting.refuse.Goals as goal

pub returns-in-Memory-clause-reported : goal.returns-in-Memory-clause-reported
returns-in-Memory-clause-reported g c = λ file there.
    reported_by g.E.Sink c.args.err.now c.report_refusal.new.err c.args.journals (opened_in c.open_file.result.now) file c.as_str-name.result.now c.args.command.now
    c.args.refusal c.as_str-name.ensures.value (sym c.open_file.ensures ∙ there) c.report_refusal.ensures

pub returns-in_default-clause-reported : goal.returns-in_default-clause-reported
returns-in_default-clause-reported g c = λ file there.
    reported_by g.E.Sink c.args.err.now c.report_refusal.new.err c.args.journals (opened_in c.open_file.result.now) file c.as_str-name.result.now c.args.command.now
    c.args.refusal c.as_str-name.ensures.value (sym c.open_file.ensures ∙ there) c.report_refusal.ensures
