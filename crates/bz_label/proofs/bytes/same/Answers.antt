use Rattle.bz_label.proofs.LabelFunctions.{same_means}
use Rattle.bz_label.proofs.bytes.same.Goals as goal

pub returns-clause-meaning : goal.returns-clause-meaning
returns-clause-meaning c = same_means _ _ _ _ c.are_same.ensures
