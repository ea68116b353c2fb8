use Rattle.bz_command_syntax.proofs.Imported.{◌+◌, ◌∙◌, ap, drop, option_map, Some, sym, take, take_rest}
use Rattle.bz_command_syntax.proofs.forms.cut.Goals as goal

pub returns-in-Some : goal.returns-in-Some
returns-in-Some c =
    let word = c.args.word.now in
    ap (option_map (λ at. (take at word, drop (at + 1) word))) (sym c.in-Some.ensures) ∙ ap (λ rest. Some (take c.in-Some.at word, rest)) (sym (take_rest word (c.in-Some.at + 1)))
