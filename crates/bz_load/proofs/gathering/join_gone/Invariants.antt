use Rattle.bz_load.proofs.Words.{◌≡◌, all_comments_joined, drop, gathered_comments, gone_comments}
use Rattle.bz_load.proofs.gathering.join_gone.Given as goal

abbrev pub invariant-loop-x : goal.invariant-loop-x
invariant-loop-x l = all_comments_joined (gathered_comments l.gone) (gone_comments l.symbol l.found (drop l.x-index l.symbols)) ≡ all_comments_joined (gathered_comments l.fn.gone) (gone_comments l.symbol l.fn.found l.symbols)
