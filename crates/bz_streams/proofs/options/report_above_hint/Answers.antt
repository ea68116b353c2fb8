use Rattle.bz_streams.proofs.Imported.{◌++◌, AppendsUnlessFailed, option_hint_text, subst, sym}
use Rattle.bz_streams.specs.declared.options.OptionHint.{OptionHint}
use Rattle.bz_streams.proofs.options.report_above_hint.Goals as goal

pub returns-in-Meant : goal.returns-in-Meant
returns-in-Meant g c =
    let new = c.report_pieces-in-Meant.new.err in
    subst (λ (hint : OptionHint). AppendsUnlessFailed (g.E.Sink.faults c.args.err.now) (g.E.Sink.faults new) (g.E.Sink.contents c.args.err.now)
    (g.E.Sink.contents new) (c.args.above.now ++ option_hint_text c.args.program.now hint)) (sym c.in-Meant.is) c.report_pieces-in-Meant.ensures
