use Rattle.std.proofs.Common.{◌∙◌, sym}
use Rattle.bz_buildozer.proofs.NamedLines.{wants_input, wants_package}
use Rattle.bz_buildozer.proofs.reading.unnamed.Goals as goal

pub returns-then-eq-clause-told : goal.returns-then-eq-clause-told
returns-then-eq-clause-told g c = wants_input (g.E.Sink.faults c.args.err.now) (g.E.Sink.faults c.fail.new.err) (g.E.Sink.contents c.args.err.now) (g.E.Sink.contents c.fail.new.err)
    c.args.package.now (sym c.eq.ensures ∙ c.if-eq.true) c.fail.ensures.reported

pub returns-clause-told : goal.returns-clause-told
returns-clause-told g c = wants_package (g.E.Sink.faults c.args.err.now) (g.E.Sink.faults c.report_pieces.new.err) (g.E.Sink.contents c.args.err.now)
    (g.E.Sink.contents c.report_pieces.new.err) c.args.package.now c.slash_after-slash.result.now (sym c.eq.ensures ∙ c.if-eq.false) c.slash_after-slash.ensures c.report_pieces.ensures
