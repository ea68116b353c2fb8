use Rattle.bz_rule.proofs.Words.{◌≡◌, attribute, drop}
use Rattle.bz_rule.proofs.rules.attribute.Given as goal

-- what the arguments that are left say is what all say
abbrev pub invariant-loop-argument : goal.invariant-loop-argument
invariant-loop-argument l = attribute l.name l.arguments ≡ attribute l.name (drop l.argument-index l.arguments)
