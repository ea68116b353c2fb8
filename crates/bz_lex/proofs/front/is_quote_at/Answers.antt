use Rattle.std.proofs.Common.{sym, ◌∙◌}
use Rattle.bz_lex.proofs.Stopping.{no_quote_past, no_quote_there}
use Rattle.bz_lex.proofs.front.is_quote_at.Goals as goal

pub returns-else-byte-eq34 : goal.returns-else-byte-eq34
returns-else-byte-eq34 c = λ b m back is. no_quote_there c.args.text.now c.args.index _ m back (sym (c.in-Some.ensures ∙ c.at.ensures)) c.if-byte-eq34.false b is

pub returns-in-None : goal.returns-in-None
returns-in-None c = λ _ m back is. absurd (no_quote_past c.args.text.now c.args.index m back (sym (c.in-None.ensures ∙ c.at.ensures)) is)
