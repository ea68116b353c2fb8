use Rattle.bz_hosts.proofs.JoinedFiles.{suites_join}
use Rattle.bz_hosts.proofs.laws.suites_join.Goals as goal

pub returns : goal.returns
returns c = suites_join c.lines_join.ensures.bzl
