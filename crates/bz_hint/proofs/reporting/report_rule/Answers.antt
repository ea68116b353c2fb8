use Rattle.std.proofs.Common.{sym}
use Rattle.bz_hint.proofs.reporting.report_rule.Goals as goal

pub returns-in-Some : goal.returns-in-Some
returns-in-Some g c = rw (c.in-Some.is, sym c.format-line.ensures.text) c.report_refusing.ensures

pub returns-in-None : goal.returns-in-None
returns-in-None g c = rw (c.in-None.is, sym c.format-line.ensures.text) c.report_refusing-in-None.ensures
