use Rattle.bz_buildozer.proofs.Words.{◌∙◌, opened_in, PairFault as f, sym}
use Rattle.bz_buildozer.proofs.ActSteps.{unkept_by}
use Rattle.bz_buildozer.proofs.acting.leave.Goals as goal

pub returns-in-Changed-clause-reported : goal.returns-in-Changed-clause-reported
returns-in-Changed-clause-reported g c = λ file is.
    unkept_by g.E.Sink c.args.err.now c.fail-in-Changed.new.err (opened_in c.open_file.result.now) file c.as_str-name.result.now c.args.fault f.Changed
    c.as_str-name.ensures.value (sym c.open_file.ensures ∙ is) c.in-Changed.is c.fail-in-Changed.ensures.reported

pub returns-in-Open-clause-reported : goal.returns-in-Open-clause-reported
returns-in-Open-clause-reported g c = λ file is.
    unkept_by g.E.Sink c.args.err.now c.fail-in-Open.new.err (opened_in c.open_file.result.now) file c.as_str-name.result.now c.args.fault f.Open
    c.as_str-name.ensures.value (sym c.open_file.ensures ∙ is) c.in-Open.is c.fail-in-Open.ensures.reported

pub returns-in-Write-clause-reported : goal.returns-in-Write-clause-reported
returns-in-Write-clause-reported g c = λ file is.
    unkept_by g.E.Sink c.args.err.now c.fail-in-Write.new.err (opened_in c.open_file.result.now) file c.as_str-name.result.now c.args.fault f.Write
    c.as_str-name.ensures.value (sym c.open_file.ensures ∙ is) c.in-Write.is c.fail-in-Write.ensures.reported
