use Rattle.bz_passes.proofs.Cases.{proper_stays}
use Rattle.bz_passes.proofs.laws.proper_stays.Goals as goal

pub returns : goal.returns
returns c = proper_stays
