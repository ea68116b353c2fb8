use Rattle.bz_load.proofs.Words.{◌≡◌, all_comments_joined, drop, gathered_comments, map, suffix_host}
use Rattle.bz_load.proofs.gathering.join_suffixes.Given as goal

abbrev pub invariant-loop-x : goal.invariant-loop-x
invariant-loop-x l = all_comments_joined (gathered_comments l.gone) (map suffix_host (drop l.x-index l.exprs)) ≡ all_comments_joined (gathered_comments l.fn.gone) (map suffix_host l.exprs)
