use Rattle.bz_command_line.proofs.Words.{◌∙◌, ◌≡◌, ap, line_with_nul, None, rules, script_lines, script_usage_in}
use Rattle.bz_command_line.proofs.InTurn.{fault_of_script, texts_in}
use Rattle.bz_command_line.proofs.script.read_script.Goals as goal

pub returns-in-Err-clause-err : goal.returns-in-Err-clause-err
returns-in-Err-clause-err c =
    let same : texts_in c.deref-2.result.now ≡ script_lines c.args.script.now = ap texts_in c.deref-2.ensures.value ∙ c.in-Ok.ensures in
    let none : line_with_nul (texts_in c.deref-2.result.now) ≡ None = search rules in
    fault_of_script c.args.profile (script_usage_in c.in-Err.fault) c.args.script.now (texts_in c.deref-2.result.now) same none c.in-Err.ensures.err
