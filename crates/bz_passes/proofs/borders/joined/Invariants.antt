use Rattle.bz_passes.proofs.Words.{◌≡◌, all_joined, drop}
use Rattle.bz_passes.proofs.borders.joined.Given as goal

abbrev pub invariant-loop-next : goal.invariant-loop-next
invariant-loop-next l = all_joined l.all (drop l.next-index l.others) ≡ all_joined l.fn.first l.fn.others
