use Rattle.bz_load.proofs.Words.{◌+◌, ◌≡◌, drop, leading_blocks}
use Rattle.bz_load.proofs.readings.count_of_blocks.Given as goal

-- the items so far are blocks
abbrev pub invariant-loop-at : goal.invariant-loop-at
invariant-loop-at l = leading_blocks l.items ≡ l.at + leading_blocks (drop l.at l.items)
