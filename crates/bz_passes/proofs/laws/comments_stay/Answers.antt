use Rattle.bz_passes.proofs.Cases.{comments_stay}
use Rattle.bz_passes.proofs.laws.comments_stay.Goals as goal

pub returns : goal.returns
returns c = comments_stay
