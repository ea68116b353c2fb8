use Rattle.bz_comment.proofs.Words.{◌++◌, ◌≡◌, comment_line, drop, flat_map}
use Rattle.bz_comment.proofs.hosts.printed.Given as goal

-- the lines so far and those of the comments that are left are all lines above
abbrev pub invariant-loop-comment : goal.invariant-loop-comment
invariant-loop-comment l = l.text.items ++ flat_map comment_line (drop l.comment-index l.comment-items) ≡ flat_map comment_line l.comment-items
