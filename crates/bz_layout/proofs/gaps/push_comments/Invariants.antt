use Rattle.bz_layout.proofs.Words.{◌++◌, ◌≡◌, comment_lines, drop}
use Rattle.bz_layout.proofs.gaps.push_comments.Given as goal

abbrev pub invariant-loop-text : goal.invariant-loop-text
invariant-loop-text l = l.out.items ++ comment_lines (drop l.text-index l.texts) ≡ l.fn.out.items ++ comment_lines l.texts
