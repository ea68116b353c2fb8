use Rattle.bz_command_line.proofs.Words.{◌≡◌, IfOk, map, map_from_collect, rules, subst, without_mark, YieldsList-from_lines}
use Rattle.std.specs.Str.Lines.{lines}
use Rattle.bz_command_line.proofs.script.script_lines.Goals as goal

pub returns : goal.returns
returns c =
    let after : c.unwrap_or-script.result.now ≡ without_mark c.args.script.now = search rules in
    subst (λ text. IfOk c.collect.result (λ all. map (λ s. s.now) all.items ≡ lines text)) after
    (map_from_collect _ c.collect.ensures.ran (YieldsList-from_lines c.unwrap_or-script.result.now c.lines.ensures.rest))
