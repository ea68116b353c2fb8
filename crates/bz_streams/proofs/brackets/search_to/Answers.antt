use Rattle.bz_streams.proofs.Imported.{◌∙◌, AreOpen, drop, subst, sym}
use Rattle.bz_streams.proofs.BracketSteps.{stops_here}
use Rattle.bz_streams.proofs.brackets.search_to.Goals as goal

pub returns-then-search-column-clause-brackets : goal.returns-then-search-column-clause-brackets
returns-then-search-column-clause-brackets c =
    let (scan, is, same) = c.loop-at.invariant.scan in
    subst (AreOpen c.loop-at.search)
    (sym (same ∙ stops_here c.args.line c.args.column scan (drop c.loop-at.at c.args.text.now) (sym is.line ∙ c.if-search-line.true) (sym is.column ∙ c.if-search-column.true)))
    is.brackets
