use Rattle.bz_states.proofs.Words.{◌≡◌, ◌≤◌, are_indents, drop, length, true}
use Rattle.bz_states.proofs.line.indent_of.Given as goal

abbrev pub invariant-blanks : goal.invariant-blanks
invariant-blanks l = record { within : l.at ≤ length l.gap; blank : are_indents (drop l.at l.gap) ≡ true }

abbrev pub decreases-blanks : goal.decreases-blanks
decreases-blanks l = l.at
