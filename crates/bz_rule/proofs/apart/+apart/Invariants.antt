use Rattle.std.proofs.Common.{◌+◌, ◌*◌, length}
use Rattle.bz_rule.proofs.apart.+apart.Given as goal

abbrev pub decreases-drop_all : goal.decreases-drop_all
decreases-drop_all l = 2 * l.depth + 1

abbrev pub decreases-drop_form : goal.decreases-drop_form
decreases-drop_form l = 2 * l.depth

abbrev pub decreases-drop_all-loop-x : goal.decreases-drop_all-loop-x
decreases-drop_all-loop-x l = length l.left.items
