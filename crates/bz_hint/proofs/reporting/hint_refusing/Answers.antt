use Rattle.std.proofs.Common.{sym, refl}
use Rattle.bz_hint.proofs.reporting.hint_refusing.Goals as goal

pub returns-in-Some-clause-ok : goal.returns-in-Some-clause-ok
returns-in-Some-clause-ok g c n reads =
    let found = c.in_ok-rule.ensures n reads in
    rw (sym found, c.in-Some.is) (g.E.Sink.faults c.report_rule.new.err, g.E.Sink.contents c.report_rule.new.err, (rw (sym c.as_deref.ensures.value) c.report_rule.ensures), (refl, refl))
