use Rattle.std.proofs.Common.{ap, ◌∙◌, sym, Some, ℕ, List}
use Rattle.bz_command_syntax.proofs.Templates.{bare, name_is_utf8, no_name}
use Rattle.bz_command_syntax.proofs.template.bare_name.Goals as goal

pub returns-then-len-eq0-clause-value : goal.returns-then-len-eq0-clause-value
returns-then-len-eq0-clause-value c = sym (no_name c.args.rest.now _ c.requires c.name_len-len.ensures.value c.if-len-eq0.true)

pub returns-in_default-clause-value : goal.returns-in_default-clause-value
returns-in_default-clause-value c =
    let broken = rw c.in_default.is at c.from_utf8.ensures.cases in
    absurd (broken.0 (name_is_utf8 c.args.rest.now _ c.requires c.name_len-len.ensures.value))

pub returns-clause-value : goal.returns-clause-value
returns-clause-value c =
    ap (λ (name : List ℕ). Some (name, c.name_len-len.result)) c.in-Ok.ensures.cases.0
    ∙ sym (bare c.args.rest.now _ c.requires c.name_len-len.ensures.value c.if-len-eq0.false)
