use Rattle.bz_command_syntax.proofs.Imported.{◌∙◌, ap, not, number_parsed, refl, sym}
use Rattle.bz_command_syntax.proofs.Templates.{missing_name, missing_number}
use Rattle.bz_command_syntax.proofs.template.is_missing.Goals as goal

pub returns-in-Ok : goal.returns-in-Ok
returns-in-Ok c =
    let number = rw c.in-Ok.is at (number_parsed c.args.name.now c.parse.result c.parse.ensures.value.0) in
    rw (missing_number _ _ _ number) refl

pub returns-in-Err : goal.returns-in-Err
returns-in-Err c =
    let none = rw c.in-Err.is at (number_parsed c.args.name.now c.parse.result c.parse.ensures.value.0) in
    ap not c.has_group.ensures ∙ sym (missing_name _ _ none)
