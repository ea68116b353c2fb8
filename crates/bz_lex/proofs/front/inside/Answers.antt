use Rattle.bz_lex.proofs.Fronts.{inside_token, inside_end, no_byte, byte_at}
use Rattle.bz_lex.proofs.front.inside.Goals as goal

pub returns-then-gap-text : goal.returns-then-gap-text
returns-then-gap-text c = λ depth. inside_end depth _ _ c.requires (no_byte _ _ c.if-gap-text.true)

pub returns : goal.returns
returns c = λ depth. inside_token depth _ _ _ _ c.requires (byte_at _ _ c.requires.within c.if-gap-text.false) c.token_front.ensures
