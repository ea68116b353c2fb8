use Rattle.bz_passes.proofs.Counts.{flags_comments}
use Rattle.bz_passes.proofs.laws.level_keeps_comments.Goals as goal

pub returns : goal.returns
returns c = flags_comments
