use Rattle.bz_command_syntax.proofs.Imported.{◌∙◌, ap, List, missing_after, sym, ℕ}
use Rattle.bz_token.proofs.Tokens.{whole_rest}
use Rattle.bz_command_syntax.proofs.Templates.{after_passed, none_missing}
use Rattle.bz_command_syntax.proofs.template.missing_group.Goals as goal

pub loop-byte-preserved : goal.loop-byte-preserved
loop-byte-preserved c =
    let names = c.args.names.now in
    ap (λ (left : List ℕ). missing_after names left 0) (whole_rest c.in-Some.rest.now c.in-Ok.count c.in-Ok.ensures.0)
    ∙ sym (after_passed names c.in-Some.rest.now c.in-Ok.count) ∙ sym c.in-Ok.ensures.1
    ∙ ap (λ (left : List ℕ). missing_after names left 0) (sym c.in-Some.ensures.cases.0) ∙ c.loop-byte.invariant

pub returns-in-Err : goal.returns-in-Err
returns-in-Err c =
    sym c.in-Err.ensures ∙ ap (λ (left : List ℕ). missing_after c.args.names.now left 0) (sym c.in-Some.ensures.cases.0)
    ∙ c.loop-byte.invariant

pub returns : goal.returns
returns c = sym (sym c.loop-byte.invariant ∙ none_missing c.args.names.now _ c.in_default.ensures.cases)
