-- Rules by the calls that they are, and statements that are passed over.
use Rattle.bz_hint.proofs.Words.{◌+◌, ◌<◌, ◌∙◌, ◌∷◌, ◌≡◌, ap, Bool, Bytes, drop, false, first_refusing, get_or, if◌then◌else◌, is_some, length, List, named_at, None, Option, option_and_then, option_map, refl, Some, sym, ℕ}
use Rattle.std.proofs.lemmas.List.{drop_more}
use Rattle.std.specs.Option.{option_map_or}
use Rattle.bz_value.specs.{declared.value.Expr.Expr, declared.value.Item.Item}
use Rattle.bz_value.specs.declared.value.Item.TheVariants as i
use Rattle.bz_rule.specs.Rules.{Call, Rule, dotted_name, named, name_in, name_of}

pub name_of_call : (call : Call) → option_and_then name_of (named call) ≡ (if is_some (dotted_name call.function) then name_in call.arguments else None)
name_of_call call = of (dotted_name call.function)
  where
    of : (kind : Option Bytes) → option_and_then name_of (option_map (λ (k : Bytes). record { kind = k; arguments = call.arguments }) kind)
        ≡ (if is_some kind then name_in call.arguments else None)
    of None = refl
    of (Some kind) = refl

pub rule_of_call : (call : Option Call) → is_some {T = Rule} (option_and_then named call) ≡ option_map_or (λ (c : Call). is_some (dotted_name c.function)) call false
rule_of_call None = refl
rule_of_call (Some call) = of (dotted_name call.function)
  where
    of : (kind : Option Bytes) → is_some {T = Rule} (option_map (λ (k : Bytes). record { kind = k; arguments = call.arguments }) kind) ≡ is_some kind
    of None = refl
    of (Some kind) = refl

-- a statement that doesn't pass is passed over
pub passed_over : (passes : Item → Bool) (lines : List ℕ) (items : List Item) (at place : ℕ) (item : Item) (x : Expr) → at < length lines → place < length items
    → get_or items place item ≡ i.Stmt x → passes (i.Stmt x) ≡ false
    → first_refusing passes (drop (at + 1) lines) (drop (place + 1) items) ≡ first_refusing passes (drop at lines) (drop place items)
passed_over passes lines items at place item x within there is fails =
    sym (ap (λ (b : Bool). if b then Some (named_at (get_or lines at 0) (i.Stmt x)) else first_refusing passes (drop (at + 1) lines) (drop (place + 1) items)) fails)
    ∙ sym (ap (λ (rest : List Item). first_refusing passes (drop at lines) rest) (drop_more items place item there ∙ ap (λ (one : Item). one ∷ drop (place + 1) items) is)
    ∙ ap (λ (rest : List ℕ). first_refusing passes rest (i.Stmt x ∷ drop (place + 1) items)) (drop_more lines at 0 within))
