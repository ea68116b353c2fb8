use Rattle.bz_label.proofs.LabelFunctions.{shortened_means}
use Rattle.bz_label.proofs.bytes.shortened.Goals as goal

pub returns-clause-meaning : goal.returns-clause-meaning
returns-clause-meaning c = shortened_means _ _ _ c.shorter.ensures
