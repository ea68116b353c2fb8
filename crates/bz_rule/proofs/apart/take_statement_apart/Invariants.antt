use Rattle.bz_rule.specs.private.Named.{fronts}
use Rattle.bz_rule.proofs.apart.take_statement_apart.Given as goal

abbrev pub decreases-loop-part : goal.decreases-loop-part
decreases-loop-part l = fronts l.at
