use Rattle.bz_layout.proofs.Words.{◌-◌, ◌≡◌, drop, statement_gap}
use Rattle.bz_layout.proofs.gaps.pass_over.Given as goal

-- what is left of the items makes of the gap so far the one that all of them leave
abbrev pub invariant-loop-at : goal.invariant-loop-at
invariant-loop-at l = statement_gap l.gap.items (l.count - l.at) (drop l.at l.items) ≡ statement_gap l.fn.gap.items l.count l.items
