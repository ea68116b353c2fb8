use Rattle.bz_passes.proofs.Words.{◌++◌, ◌≡◌, beq, Bytes, drop, filter, is_marked, keep_sorted, List}
use Rattle.bz_passes.proofs.lists.split_marks.Given as goal

abbrev pub invariant-loop-comment : goal.invariant-loop-comment
invariant-loop-comment l =
    let chosen : List Bytes → List Bytes = filter (λ comment. beq l.fn.marked (is_marked keep_sorted comment)) in
    l.copies ++ chosen (drop l.comment-index l.comments) ≡ chosen l.comments
