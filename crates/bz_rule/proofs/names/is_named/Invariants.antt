use Rattle.bz_rule.proofs.Words.{◌≡◌, dotted_name, fronts, is_some}
use Rattle.bz_rule.proofs.names.is_named.Given as goal

abbrev pub invariant-loop-names : goal.invariant-loop-names
invariant-loop-names l = is_some (dotted_name l.at) ≡ is_some (dotted_name l.expr)

abbrev pub decreases-loop-names : goal.decreases-loop-names
decreases-loop-names l = fronts l.at
