use Rattle.std.proofs.Common.{ap, ◌∙◌, sym, ◌+◌, Some, ℕ, List}
use Rattle.bz_command_syntax.proofs.Templates.{in_braces, no_text, not_closed}
use Rattle.bz_command_syntax.proofs.template.name_in_braces.Goals as goal

pub returns-then-inside-len-clause-value : goal.returns-then-inside-len-clause-value
returns-then-inside-len-clause-value c = sym (not_closed c.args.inside.now _ c.len_in_braces-len.ensures c.if-inside-len.true)

pub returns-in_default-clause-value : goal.returns-in_default-clause-value
returns-in_default-clause-value c =
    let broken = rw c.in_default.is at c.from_utf8.ensures.cases in
    sym (no_text c.args.inside.now _ c.len_in_braces-len.ensures broken.0)

pub returns-clause-value : goal.returns-clause-value
returns-clause-value c =
    ap (λ (name : List ℕ). Some (name, c.len_in_braces-len.result + 2)) c.in-Ok.ensures.cases.0
    ∙ sym (in_braces c.args.inside.now _ c.len_in_braces-len.ensures c.if-inside-len.false c.in-Ok.ensures.cases.1)
