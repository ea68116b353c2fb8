-- The arguments of a rule, changed. An attribute is a named argument; of several with one name the first is meant.
use Rattle.std.specs.Prelude.{Bool, not, ◌&&◌, List, [], ◌∷◌, Option, Some, None, Result, codes, if◌then◌else◌, is_some}
use Rattle.bz_grammar.specs.declared.kind.Kind.TheVariants as k
use Rattle.bz_attribute.specs.Words.{Expr, Bytes, value_named, attribute, has_kind, on_row, on_third, Refusal}
use Rattle.bz_attribute.specs.Made.{argument_of}

abbrev pub is_attribute : Bytes → Expr → Bool
is_attribute name x = is_some (value_named name x)

abbrev pub has_attribute : Bytes → List Expr → Bool
has_attribute name arguments = is_some (attribute name arguments)

-- `*` means every named argument but `name`
abbrev pub is_other_attribute : Expr → Bool
is_other_attribute x = has_kind k.Named x && not (is_attribute (codes "name") x)

-- the first element that passes a test, changed
abbrev pub on_first_that : {X : Type 0} → (X → Bool) → (X → X) → List X → List X
on_first_that test change [] = []
on_first_that test change (x ∷ xs) = if test x then change x ∷ xs else x ∷ on_first_that test change xs

abbrev pub without_first : {X : Type 0} → (X → Bool) → List X → List X
without_first test [] = []
without_first test (x ∷ xs) = if test x then xs else x ∷ without_first test xs

-- a named argument with its value changed
abbrev pub on_value : (Expr → Expr) → Expr → Expr
on_value change x = on_row k.Named (on_third change) x

abbrev pub with_value : Bytes → Expr → List Expr → List Expr
with_value name value arguments = on_first_that (is_attribute name) (on_value (λ old. value)) arguments

abbrev pub without : Bytes → List Expr → List Expr
without name arguments = without_first (is_attribute name) arguments

-- A new attribute goes before the first starred argument, else last.
abbrev pub inserted : Expr → List Expr → List Expr
inserted argument [] = argument ∷ []
inserted argument (x ∷ xs) = if has_kind k.Star x then argument ∷ x ∷ xs else x ∷ inserted argument xs

abbrev pub with_new : Bytes → Expr → List Expr → List Expr
with_new name value arguments = inserted (argument_of name value) arguments

-- the value replaces the attribute's, or becomes it
abbrev pub put : Bytes → Expr → List Expr → List Expr
put name value arguments = if has_attribute name arguments then with_value name value arguments else with_new name value arguments

-- arguments, or a refusal
abbrev pub Arguments : Type 0
Arguments = Result (List Expr) Refusal

-- by the value of an attribute: where it is absent, and where it is there
abbrev pub by_value : Option Expr → Arguments → (Expr → Arguments) → Arguments
by_value None absent there = absent
by_value (Some value) absent there = there value
