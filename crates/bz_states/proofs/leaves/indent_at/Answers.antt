use Rattle.bz_states.proofs.Words.{◌∙◌, ap, indent, refl, sym}
use Rattle.bz_grammar.specs.Indents.{first_indent}
use Rattle.bz_states.proofs.Cutting.{first_comes, none_comes}
use Rattle.bz_states.proofs.leaves.indent_at.Goals as goal

pub returns-in-Some : goal.returns-in-Some
returns-in-Some c = c.indent_of.ensures ∙ ap indent c.split_at.ensures.front ∙ ap first_indent (sym (first_comes _ _ _ refl _ c.requires _ c.in-Some.is))

pub returns-in-None : goal.returns-in-None
returns-in-None c = c.split_at-in-None.ensures.front ∙ ap first_indent (sym (none_comes _ _ _ refl _ c.requires c.in-None.is))
