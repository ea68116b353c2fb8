use Rattle.bz_attribute.proofs.KeySets.{text_inserted}
use Rattle.bz_attribute.proofs.sets.insert_text.Goals as goal

pub returns : goal.returns
returns c = λ word. text_inserted _ _ _ _ word c.in_ok-copy.ensures.items c.in_ok-insert.ensures.keys
