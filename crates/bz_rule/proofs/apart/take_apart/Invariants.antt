use Rattle.std.proofs.Common.{length}
use Rattle.bz_rule.proofs.apart.take_apart.Given as goal

abbrev pub decreases-loop-item : goal.decreases-loop-item
decreases-loop-item l = length l.left.items
