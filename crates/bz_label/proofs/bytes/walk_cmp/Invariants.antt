use Rattle.std.proofs.Common.{◌≡◌, length}
use Rattle.bz_label.proofs.KeySteps.{both_orders, order_from}
use Rattle.bz_label.proofs.bytes.walk_cmp.Given as goal

abbrev pub invariant-loop-one : goal.invariant-loop-one
invariant-loop-one l = order_from l.marks l.one l.other ≡ both_orders l.fn.first l.fn.second

abbrev pub decreases-loop-one : goal.decreases-loop-one
decreases-loop-one l = length l.one
