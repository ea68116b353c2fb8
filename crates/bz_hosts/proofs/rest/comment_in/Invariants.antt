use Rattle.bz_hosts.proofs.Words.{◌≡◌, all_in, length}
use Rattle.bz_hosts.proofs.rest.comment_in.Given as goal

abbrev pub invariant-loop-line : goal.invariant-loop-line
invariant-loop-line l = all_in l.rest ≡ all_in l.gap

abbrev pub decreases-loop-line : goal.decreases-loop-line
decreases-loop-line l = length l.rest
