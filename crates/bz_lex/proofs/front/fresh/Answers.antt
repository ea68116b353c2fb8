use Rattle.bz_lex.proofs.Fronts.{fresh_end, fresh_answered, no_byte, byte_at}
use Rattle.bz_lex.proofs.front.fresh.Goals as goal

pub returns-then-gap-text : goal.returns-then-gap-text
returns-then-gap-text c = fresh_end _ _ _ c.requires (no_byte _ _ c.if-gap-text.true) c.new.ensures

pub returns : goal.returns
returns c = fresh_answered _ _ _ _ c.requires (byte_at _ _ c.requires.within c.if-gap-text.false) c.token_front.ensures
