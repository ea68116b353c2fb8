use Rattle.std.proofs.Common.{◌∙◌}
use Rattle.bz_attribute.proofs.KeySets.{text_found}
use Rattle.bz_attribute.proofs.sets.has_text.Goals as goal

pub returns : goal.returns
returns c = c.contains.ensures ∙ text_found c.args.texts.now c.args.word.now
