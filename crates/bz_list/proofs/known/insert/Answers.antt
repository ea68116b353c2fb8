use Rattle.bz_list.proofs.Words.{◌∙◌, ◌≡◌, ap, Bytes, knows_word, Option, option_copied, rules, Some, sym, with_known}
use Rattle.bz_list.proofs.KnownSteps.{key_inserted}
use Rattle.bz_list.proofs.known.insert.Goals as goal

pub returns-clause-more : goal.returns-clause-more
returns-clause-more c =
    let current = c.args.slot.current.now in
    let attribute = c.args.slot.attribute.now in
    let own : option_copied c.args.word ≡ Some c.in-Some.word.now = search rules in
    key_inserted current attribute c.in-Some.word.now c.args.known.now c.insert.new.self c.in_ok-key.key c.in_ok-key.ensures c.in_ok-insert.ensures.keys
    ∙ ap (λ (word : Option Bytes). with_known current attribute word (knows_word current attribute c.args.known.now)) (sym own)
