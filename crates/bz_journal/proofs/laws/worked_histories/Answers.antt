use Rattle.std.proofs.Common.{refl}
use Rattle.bz_journal.proofs.laws.worked_histories.Goals as goal

pub returns : goal.returns
returns c = (refl, refl, refl, refl, refl, refl, refl, refl, refl, refl, refl, refl, refl)
