use Rattle.std.proofs.Common.{◌≡◌, length}
use Rattle.bz_rule.specs.QuoteMarks.{unprefixed}
use Rattle.bz_rule.proofs.quote_marks.unprefixed.Given as goal

abbrev pub invariant-loop-rest : goal.invariant-loop-rest
invariant-loop-rest l = unprefixed l.rest ≡ unprefixed l.text

abbrev pub decreases-loop-rest : goal.decreases-loop-rest
decreases-loop-rest l = length l.rest
