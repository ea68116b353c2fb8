use Rattle.std.proofs.Common.{length}
use Rattle.bz_hosts.proofs.moved.drop_row.Given as goal

abbrev pub decreases-loop-part : goal.decreases-loop-part
decreases-loop-part l = length l.left.items
