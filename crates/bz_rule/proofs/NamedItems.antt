-- The name of a call.
use Rattle.bz_rule.proofs.Words.{◌≡◌, Bytes, Call, dotted_name, Expr, if◌then◌else◌, is_some, List, name_in, name_of, named, None, Option, option_and_then, option_map, refl, Rule, Some}

abbrev made : List Expr → Bytes → Rule
made arguments kind = record { kind = kind; arguments = arguments }

pub name_of_call : (call : Option Call)
    → option_and_then name_of (option_and_then named call)
    ≡ option_and_then (λ (c : Call). if is_some (dotted_name c.function) then name_in c.arguments else None) call
name_of_call None = refl
name_of_call (Some call) = of (dotted_name call.function)
  where
    of : (kind : Option Bytes)
        → option_and_then name_of (option_map (made call.arguments) kind) ≡ (if is_some kind then name_in call.arguments else None)
    of None = refl
    of (Some kind) = refl
