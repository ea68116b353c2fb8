-- A call that the code has found, as definitions see it.
use Rattle.bz_rule.specs.declared.rules.Call.{Call}
use Rattle.bz_rule.specs.Rules as r

abbrev pub seen : Call → r.Call
seen found = record { function = found.function.now; arguments = found.arguments.now }
