-- The arguments of a rule with a value put in, with a new attribute, and with fewer.
use Rattle.bz_attribute.proofs.Words.{[], ◌∙◌, ◌∷◌, AllByRecursion, AreOf, argument_of, Arguments, attribute, Bool, by_test, by_value, Bytes, EachStays, Expr, Grammar, has_attribute, has_kind, IfOk, IfSome, inserted, is_attribute, is_select, IsAttribute, IsItem, IsValue, Kind as k, List, map, None, on_branches, on_first, on_first_that, on_items, on_lists, on_operand, on_operands, on_row, on_third, on_value, Option, put, refl, Selects, Some, Stays, with_new, with_value, without}
use Rattle.bz_grammar.specs.Shapes as s
use Rattle.bz_rule.proofs.ProperArguments.{argument_changed, attribute_value, value_kept}
use Rattle.bz_rule.proofs.ProperChanges.{first_stays, items_stay, row_stays, third_stays}
use Rattle.bz_rule.proofs.ProperForms.{EachInPlace, InPlace, itself, none, both, all_itself, each_mapped}
use Rattle.bz_command_syntax.specs.declared.command.Selects.TheVariants.{Skipped, Entered}
use Rattle.bz_attribute.proofs.ProperMade.{argument_item}

pub first_that_kept : (P : Expr → Type 0) (test : Expr → Bool) (change : Expr → Expr) → ((x : Expr) → P x → P (change x)) → (xs : List Expr) → AllByRecursion P xs → AllByRecursion P (on_first_that test change xs)
first_that_kept P test change f [] h = tt
first_that_kept P test change f (x ∷ xs) h = by_test (AllByRecursion P) (test x) (change x ∷ xs) (x ∷ on_first_that test change xs) (f x h.0, h.1) (h.0, first_that_kept P test change f xs h.1)

module _ (grammar : Grammar) where
  abbrev pub AreArguments : List Expr → Type 0
  AreArguments xs = AreOf grammar s.argument xs

  pub first_that_stays : (test : Expr → Bool) (change : Expr → Expr) → Stays grammar change → EachStays grammar (on_first_that test change)
  first_that_stays test change h [] = none
  first_that_stays test change h (x ∷ xs) =
      by_test (EachInPlace grammar (x ∷ xs)) (test x) (change x ∷ xs) (x ∷ on_first_that test change xs)
      (both x (change x) xs xs (h x) (all_itself grammar xs)) (both x x xs (on_first_that test change xs) (itself grammar x) (first_that_stays test change h xs))

  -- ---- the lists of a value, changed in their places

  in_turn : (x y z : Expr) → InPlace grammar x y → InPlace grammar y z → InPlace grammar x z
  in_turn x y z h i = record {
    proper = λ here p. i.proper here (h.proper here p);
    roots = record { token = λ ts t. h.roots.token ts t ∙ i.roots.token ts t; nonterminal = λ q. h.roots.nonterminal q ∙ i.roots.nonterminal q };
    comments = h.comments ∙ i.comments;
    breaks = h.breaks ∙ i.breaks;
    operator = h.operator ∙ i.operator;
    following = λ outer here. h.following outer here ∙ i.following outer here;
    statement = λ here p. h.statement here p ∙ i.statement here (h.proper here p);
  }

  operands_stay : (change : Expr → Expr) → Stays grammar change → Stays grammar (on_operands change)
  operands_stay change h x =
      by_test (InPlace grammar x) (has_kind k.Sum x) (on_row k.Sum (map change) x) (change x) (row_stays grammar k.Sum refl (map change) (each_mapped grammar change h) x) (h x)

  branches_stay : (change : Expr → Expr) → Stays grammar change → Stays grammar (on_branches change)
  branches_stay change h x =
      let in_entry : Expr → Expr = on_row k.Entry (on_third change) in
      let in_dict : Expr → Expr = on_items k.Dict (map in_entry) in
      let entry_stays : Stays grammar in_entry = row_stays grammar k.Entry refl (on_third change) (third_stays grammar change h) in
      let dict_stays : Stays grammar in_dict = items_stay grammar k.Dict refl (map in_entry) (each_mapped grammar in_entry entry_stays) in
      by_test (InPlace grammar x) (is_select x) (on_items k.Call (on_first in_dict) x) x (items_stay grammar k.Call refl (on_first in_dict) (first_stays grammar in_dict dict_stays) x) (itself grammar x)

  operand_stays : (selects : Selects) (change : Expr → Expr) → Stays grammar change → Stays grammar (on_operand selects change)
  operand_stays Skipped change h x = h x
  operand_stays Entered change h x = in_turn x (change x) (on_operand Entered change x) (h x) (branches_stay (on_operands change) (operands_stay change h) (change x))

  pub lists_stay : (selects : Selects) (change : List Expr → List Expr) → Stays grammar (on_items k.List change) → Stays grammar (on_lists selects change)
  lists_stay selects change h = operands_stay (on_operand selects (on_items k.List change)) (operand_stays selects (on_items k.List change) h)

  -- ---- arguments

  pub value_stays : (change : Expr → Expr) → ((v : Expr) → IsValue grammar v → IsValue grammar (change v)) → (x : Expr) → IsItem grammar s.argument x → IsItem grammar s.argument (on_value change x)
  value_stays change f x = argument_changed grammar (on_third change) (value_kept grammar change f) x

  pub with_value_kept : (name : Bytes) (value : Expr) (xs : List Expr) → IsValue grammar value → AreArguments xs → AreArguments (with_value name value xs)
  with_value_kept name value xs v h = first_that_kept (IsItem grammar s.argument) (is_attribute name) (on_value (λ old. value)) (value_stays (λ old. value) (λ old o. v)) xs h

  pub without_kept : (name : Bytes) (xs : List Expr) → AreArguments xs → AreArguments (without name xs)
  without_kept name [] h = tt
  without_kept name (x ∷ xs) h = by_test AreArguments (is_attribute name x) xs (x ∷ without name xs) h.1 (h.0, without_kept name xs h.1)

  inserted_kept : (argument : Expr) (xs : List Expr) → IsItem grammar s.argument argument → AreArguments xs → AreArguments (inserted argument xs)
  inserted_kept argument [] a h = (a, tt)
  inserted_kept argument (x ∷ xs) a h =
      by_test AreArguments (has_kind k.Star x) (argument ∷ x ∷ xs) (x ∷ inserted argument xs) (a, h) (h.0, inserted_kept argument xs a h.1)

  pub with_new_kept : (name : Bytes) (value : Expr) (xs : List Expr) → IsAttribute name → IsValue grammar value → AreArguments xs → AreArguments (with_new name value xs)
  with_new_kept name value xs a v h = inserted_kept (argument_of name value) xs (argument_item grammar name value a v) h

  pub put_kept : (name : Bytes) (value : Expr) (xs : List Expr) → IsAttribute name → IsValue grammar value → AreArguments xs → AreArguments (put name value xs)
  put_kept name value xs a v h = by_test AreArguments (has_attribute name xs) (with_value name value xs) (with_new name value xs) (with_value_kept name value xs v h) (with_new_kept name value xs a v h)

  -- ---- what a change makes of arguments

  -- what is made is arguments, where nothing is refused
  abbrev pub Made : Arguments → Type 0
  Made result = IfOk result AreArguments

  abbrev pub Keeps : (List Expr → Arguments) → Type 0
  Keeps change = (xs : List Expr) → AreArguments xs → Made (change xs)

  pub of_value : (o : Option Expr) (absent : Arguments) (there : Expr → Arguments) → IfSome o (IsValue grammar) → Made absent → ((v : Expr) → IsValue grammar v → Made (there v)) → Made (by_value o absent there)
  of_value None absent there h i f = i
  of_value (Some v) absent there h i f = f v h

  -- by the value that an attribute has
  pub of_attribute : (name : Bytes) (xs : List Expr) (absent : Arguments) (there : Expr → Arguments) → AreArguments xs → Made absent → ((v : Expr) → IsValue grammar v → Made (there v)) → Made (by_value (attribute name xs) absent there)
  of_attribute name xs absent there h i f = of_value (attribute name xs) absent there (attribute_value grammar name xs h) i f
