use Rattle.bz_hosts.proofs.HostStatements.{hosts_by_place}
use Rattle.bz_hosts.proofs.laws.hosts_by_place.Goals as goal

pub returns : goal.returns
returns c = hosts_by_place
