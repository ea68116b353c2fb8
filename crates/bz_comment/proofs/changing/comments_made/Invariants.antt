use Rattle.std.proofs.Common.{◌≡◌, take}
use Rattle.bz_comment.proofs.changing.comments_made.Given as goal

abbrev pub invariant-loop-comment : goal.invariant-loop-comment
invariant-loop-comment l = l.before.items ≡ take l.comment-index l.comment-items
