use Rattle.bz_hosts.proofs.BuildFiles.{build_views}
use Rattle.bz_hosts.proofs.laws.build_views.Goals as goal

pub returns : goal.returns
returns c = build_views
