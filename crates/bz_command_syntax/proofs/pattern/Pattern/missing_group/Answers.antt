use Rattle.bz_command_syntax.proofs.Imported.{◌∙◌, ap, List, missing_after, missing_group, Names, ℕ}
use Rattle.bz_command_syntax.proofs.pattern.Pattern.missing_group.Goals as goal

pub returns : goal.returns
returns c =
    c.missing_group.ensures ∙ ap (λ (names : Names). missing_after names c.args.template.now 0) c.as_slice.ensures
    ∙ c.self.invariant.0 c.args.template.now ∙ ap (λ (source : List ℕ). missing_group source c.args.template.now) c.self.view_is
