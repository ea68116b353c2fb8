use Rattle.bz_edit.proofs.Words.{◌≡◌, follows_at, length}
use Rattle.bz_edit.proofs.order.may_follow.Given as goal

abbrev pub invariant-loop-i : goal.invariant-loop-i
invariant-loop-i l = follows_at l.even l.next_even l.path l.fn.edit.at l.fn.edit.count l.other l.fn.next.at ≡ follows_at l.even l.next_even l.fn.edit.path l.fn.edit.at l.fn.edit.count l.fn.next.path l.fn.next.at

abbrev pub decreases-loop-i : goal.decreases-loop-i
decreases-loop-i l = length l.path
