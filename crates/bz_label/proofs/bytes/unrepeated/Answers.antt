use Rattle.bz_label.proofs.Repeats.{unrepeated_means}
use Rattle.bz_label.proofs.bytes.unrepeated.Goals as goal

pub returns-clause-meaning : goal.returns-clause-meaning
returns-clause-meaning c = unrepeated_means _ _ c.without_repeat.ensures
