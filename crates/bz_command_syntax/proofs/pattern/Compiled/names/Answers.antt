use Rattle.bz_command_syntax.proofs.Imported.{◌∙◌, ap, List, missing_after, missing_group, Names, ℕ}
use Rattle.bz_command_syntax.proofs.Alike.{names_as_read}
use Rattle.bz_command_syntax.proofs.pattern.Compiled.names.Goals as goal

pub returns : goal.returns
returns c = λ template.
    ap (λ (names : Names). missing_after names template 0) (c.in_ok-names.ensures ∙ c.capture_names.ensures)
    ∙ names_as_read template c.self.inside.regex c.self.invariant.0 c.self.invariant.1
    ∙ ap (λ (source : List ℕ). missing_group source template) c.self.view_is
