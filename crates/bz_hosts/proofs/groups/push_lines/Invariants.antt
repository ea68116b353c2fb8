use Rattle.bz_hosts.proofs.Words.{length, lines_of}
use Rattle.bz_hosts.proofs.GroupSteps.{Pushed}
use Rattle.bz_hosts.proofs.groups.push_lines.Given as goal

abbrev pub invariant-loop-line : goal.invariant-loop-line
invariant-loop-line l = Pushed l.items l.last (lines_of l.rest) l.fn.items l.fn.group (lines_of l.gap)

abbrev pub decreases-loop-line : goal.decreases-loop-line
decreases-loop-line l = length l.rest
