use Rattle.bz_hosts.proofs.Words.{◌++◌, ◌+◌, ◌≡◌, after_end, end_comments, length, lines_of}
use Rattle.bz_hosts.proofs.rest.take_end.Given as goal

abbrev pub invariant-loop-line : goal.invariant-loop-line
invariant-loop-line l = record {
  end : l.end ++ end_comments l.margin (lines_of l.left.left.now ++ lines_of l.left.gap.now) ≡ l.fn.end ++ end_comments l.margin (lines_of l.fn.rest.left.now ++ lines_of l.fn.rest.gap.now);
  rest : after_end l.margin (lines_of l.left.left.now ++ lines_of l.left.gap.now) ≡ after_end l.margin (lines_of l.fn.rest.left.now ++ lines_of l.fn.rest.gap.now);
}

abbrev pub decreases-loop-line : goal.decreases-loop-line
decreases-loop-line l = length l.left.left.now + length l.left.gap.now
