use Rattle.bz_buildozer.proofs.Words.{Reports, subst, sym, unedited_in, unedited_lines}
use Rattle.bz_buildozer.specs.declared.settling.Unedited.{Unedited}
use Rattle.bz_buildozer.proofs.reading.fail_unedited.Goals as goal

pub returns-in-Beside-clause-reported : goal.returns-in-Beside-clause-reported
returns-in-Beside-clause-reported g c =
    subst (λ (why : Unedited). Reports (g.E.Sink.faults c.args.err.now) (g.E.Sink.faults c.fail_with_hint.new.err) (g.E.Sink.contents c.args.err.now)
    (g.E.Sink.contents c.fail_with_hint.new.err) (unedited_lines c.args.name.now (unedited_in why))) (sym c.in-Beside.is) c.fail_with_hint.ensures.reported

pub returns-in-Kept-clause-reported : goal.returns-in-Kept-clause-reported
returns-in-Kept-clause-reported g c =
    subst (λ (why : Unedited). Reports (g.E.Sink.faults c.args.err.now) (g.E.Sink.faults c.fail_with_hint-in-Kept.new.err) (g.E.Sink.contents c.args.err.now)
    (g.E.Sink.contents c.fail_with_hint-in-Kept.new.err) (unedited_lines c.args.name.now (unedited_in why))) (sym c.in-Kept.is) c.fail_with_hint-in-Kept.ensures.reported

pub returns-in-Bzl-clause-reported : goal.returns-in-Bzl-clause-reported
returns-in-Bzl-clause-reported g c =
    subst (λ (why : Unedited). Reports (g.E.Sink.faults c.args.err.now) (g.E.Sink.faults c.fail_with_hint-in-Bzl.new.err) (g.E.Sink.contents c.args.err.now)
    (g.E.Sink.contents c.fail_with_hint-in-Bzl.new.err) (unedited_lines c.args.name.now (unedited_in why))) (sym c.in-Bzl.is) c.fail_with_hint-in-Bzl.ensures.reported
