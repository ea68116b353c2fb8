use Rattle.bz_rule.proofs.Words.{◌≡◌, dotted_name, fronts, is_text}
use Rattle.bz_rule.proofs.names.is_dotted.Given as goal

abbrev pub invariant-loop-names : goal.invariant-loop-names
invariant-loop-names l = is_text l.left (dotted_name l.at) ≡ is_text l.text (dotted_name l.expr)

abbrev pub decreases-loop-names : goal.decreases-loop-names
decreases-loop-names l = fronts l.at
