use Rattle.bz_hosts.proofs.JoinedLines.{views_join, empty_reads}
use Rattle.bz_hosts.proofs.laws.views_join.Goals as goal

pub returns-clause-joined : goal.returns-clause-joined
returns-clause-joined c = views_join c.lines_join.ensures.build

pub returns-clause-empty : goal.returns-clause-empty
returns-clause-empty c = empty_reads
