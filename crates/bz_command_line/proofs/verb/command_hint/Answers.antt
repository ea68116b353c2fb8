use Rattle.bz_command_line.proofs.Words.{◌∙◌, ◌∷◌, ◌≡◌, ap, name_hint, rules, Unknown, words_of}
use Rattle.bz_command_line.proofs.verb.command_hint.Goals as goal

pub returns-in-Unknown : goal.returns-in-Unknown
returns-in-Unknown c =
    let is : c.args.fault ≡ Unknown = search rules in
    let split : words_of c.args.refused.now.operand.now ≡ c.in-Some.name.now ∷ c.in-Some.words.now = search rules in
    rw (is, split) (c.in_ok-name_hint-in-Unknown.ensures ∙ ap name_hint c.as_text-name.ensures)
