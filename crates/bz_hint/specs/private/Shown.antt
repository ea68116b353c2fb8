-- A rule that refuses a command, as contracts see it.
use Rattle.std.specs.Prelude.{option_map, string_bytes}
use Rattle.bz_hint.specs.Refusing.{RuleAt}
use Rattle.bz_hint.specs.declared.refusing.Refusing.{Refusing}

abbrev pub rule_seen : Refusing → RuleAt
rule_seen rule = record { line = rule.line; name = option_map string_bytes rule.name }
