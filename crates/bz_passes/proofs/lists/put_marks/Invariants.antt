use Rattle.bz_passes.proofs.Words.{◌++◌, ◌≡◌, above_first, drop}
use Rattle.bz_passes.proofs.lists.put_marks.Given as goal

abbrev pub invariant-loop-comment : goal.invariant-loop-comment
invariant-loop-comment l = l.marks ++ drop l.comment-index l.comment-items ≡ l.fn.marks ++ above_first l.fn.items
