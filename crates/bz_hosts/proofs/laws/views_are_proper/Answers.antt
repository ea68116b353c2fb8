use Rattle.bz_hosts.proofs.ProperViews.{views_proper}
use Rattle.bz_hosts.proofs.laws.views_are_proper.Goals as goal

pub returns : goal.returns
returns c = views_proper
