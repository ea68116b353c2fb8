use Rattle.bz_list.proofs.Words.{◌∙◌, ap, argument_left, Bytes, chooses, rules}
use Rattle.bz_list.proofs.ListedForms.{left_alone}
use Rattle.bz_list.proofs.listed.argument_left.Goals as goal

pub returns : goal.returns
returns c =
    let slot = c.new-slot.result in
    left_alone c.args.selects slot.current.now slot.attribute.now c.args.words.now c.args.x c.push-2.new.self c.take_items.new.arguments (chooses slot.current.now slot.attribute.now c.in_ok-chosen.chosen)
    (search rules) (search rules) (search rules) c.in_ok-chosen.ensures c.in_ok-take_items.ensures.left
    ∙ ap (λ (current : Bytes). argument_left c.args.selects current c.args.words.now c.args.x) c.new-slot.ensures.current
