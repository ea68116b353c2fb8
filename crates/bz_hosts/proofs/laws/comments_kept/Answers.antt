use Rattle.bz_hosts.proofs.ProperViews.{comments_kept}
use Rattle.bz_hosts.proofs.laws.comments_kept.Goals as goal

pub returns : goal.returns
returns c = comments_kept
