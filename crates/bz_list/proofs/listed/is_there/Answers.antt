use Rattle.std.proofs.Common.{◌∙◌}
use Rattle.bz_list.proofs.ItemEnds.{in_lists}
use Rattle.bz_list.proofs.listed.is_there.Goals as goal

pub returns : goal.returns
returns c =
    c.is_in_lists.ensures ∙ in_lists c.args.slot.current.now c.args.slot.attribute.now c.args.word.now c.args.operands.now c.meaning.result.0 c.meaning.result.1 c.meaning.ensures
