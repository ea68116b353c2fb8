use Rattle.bz_tree.proofs.Words.{◌∙◌, ap, has_token, name, none-some, option_copied, same_Some, sym}
use Rattle.bz_tree.proofs.stack.Stack.is_name_at.Goals as goal

pub returns-in-Some : goal.returns-in-Some
returns-in-Some c x e = c.is_name.ensures ∙ ap (has_token name) (same_Some c.in-Some.part.now x (sym (ap option_copied c.in-Some.is) ∙ c.get.ensures ∙ e))

pub returns-in-None : goal.returns-in-None
returns-in-None c x e = absurd (none-some x (sym (ap option_copied c.in-None.is) ∙ c.get.ensures ∙ e))
