use Rattle.std.proofs.Common.{sym, ◌∙◌, ap, Some}
use Rattle.bz_lex.proofs.Fronts.{following_token, after_end, after_line}
use Rattle.bz_lex.proofs.front.following.Goals as goal

pub returns-in-None : goal.returns-in-None
returns-in-None c = after_end _ _ _ c.requires (sym (c.in-None.ensures ∙ c.at.ensures)) c.new.ensures

pub returns-in-Some-eq10 : goal.returns-in-Some-eq10
returns-in-Some-eq10 c = after_line _ _ _ c.requires (sym (c.in-Some-eq10.ensures ∙ c.at.ensures) ∙ ap Some c.in-Some-eq10.field-0-test) c.new-in-Some-eq10.ensures

pub returns-in-Some : goal.returns-in-Some
returns-in-Some c = following_token _ _ _ _ c.requires (sym (c.in-Some.ensures ∙ c.at.ensures)) c.in-Some.field-0-test.1 c.token_front.ensures
