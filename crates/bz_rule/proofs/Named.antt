-- The kind and the name of a call.
use Rattle.bz_rule.proofs.Words.{◌&&◌, ◌≡◌, Bytes, Call, dotted_name, Expr, false, is_some, is_text, List, name_in, name_of, named, None, Option, option_and_then, option_map, option_map_or, refl, Rule, Some}

abbrev made : List Expr → Bytes → Rule
made arguments kind = record { kind = kind; arguments = arguments }

pub kind_of_call : (kind : Bytes) (call : Option Call)
    → is_text kind (option_map (λ (rule : Rule). rule.kind) (option_and_then named call)) ≡ option_map_or (λ (c : Call). is_text kind (dotted_name c.function)) call false
kind_of_call kind None = refl
kind_of_call kind (Some call) = of (dotted_name call.function)
  where
    of : (name : Option Bytes) → is_text kind (option_map (λ (rule : Rule). rule.kind) (option_map (made call.arguments) name)) ≡ is_text kind name
    of None = refl
    of (Some name) = refl

pub name_of_call : (name : Bytes) (call : Option Call)
    → is_text name (option_and_then name_of (option_and_then named call))
    ≡ option_map_or (λ (c : Call). is_some (dotted_name c.function) && is_text name (name_in c.arguments)) call false
name_of_call name None = refl
name_of_call name (Some call) = of (dotted_name call.function)
  where
    of : (kind : Option Bytes)
        → is_text name (option_and_then name_of (option_map (made call.arguments) kind)) ≡ (is_some kind && is_text name (name_in call.arguments))
    of None = refl
    of (Some kind) = refl
