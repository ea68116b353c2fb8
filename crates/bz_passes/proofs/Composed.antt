-- The changes of single statements leave the comments above them as they are: so passes in turn are one pass.
use Rattle.bz_passes.proofs.Words.{[], ◌∙◌, ◌∷◌, ◌≡◌, above, after_passes, any_marked, ap, argument_precedes, arguments_in, by_test, Bytes, cases_Bool, Expr, false, has_kind, inl, inr, Item, Item as i, items_of, Kind, Kind as k, labels_in, leave_alone, List, lists_in, map, on_assigned, on_attribute, on_call, on_first, on_label_value, on_list_value, on_lists, on_rest, on_rule_arguments, on_statement, on_taken, on_third, parts_of, quotes_in, refl, settled_list, shorter_string, sort_by, symbol_precedes, symbols_in, taken, with_items, with_parts}
use Rattle.bz_passes.proofs.{Keeping.both, Parts.the_parts, Parts.the_items, Parts.above_quoted, Parts.items_kind, Parts.kind_quoted, Parts.parts_kind, Places.above_put, Places.within}

-- ---- what the passes do not change

-- What is seen of an expression without a look at its lists and at the texts of its strings.
pub record IsOutside {A : Type 0} (seen : Expr → A) : Type 0 where
  pub parts : (xs : List Expr) (x : Expr) → seen (with_parts xs x) ≡ seen x
  pub items : (xs : List Expr) (x : Expr) → seen (with_items xs x) ≡ seen x
  pub strings : (x : Expr) → seen (quotes_in x) ≡ seen x

pub above_outside : IsOutside above
above_outside = record { parts = above_put the_parts; items = above_put the_items; strings = above_quoted }

pub kind_outside : (kind : Kind) → IsOutside (has_kind kind)
kind_outside kind = record { parts = parts_kind kind; items = items_kind kind; strings = kind_quoted kind }

module _ {A : Type 0} (seen : Expr → A) (outside : IsOutside seen) where
  abbrev pub Stays : (Expr → Expr) → Type 0
  Stays change = (x : Expr) → seen (change x) ≡ seen x

  row_stays : (kind : Kind) (d : Expr → List Expr → List Expr) → Stays (within the_parts kind d)
  row_stays kind d x = by_test (λ y. seen y ≡ seen x) (has_kind kind x) (with_parts (d x (parts_of x)) x) x (outside.parts (d x (parts_of x)) x) refl

  rule_stays : (change : Bytes → List Expr → List Expr) → Stays (on_rule_arguments change)
  rule_stays change = row_stays k.Bare (λ x. on_first (on_call change))

  pub labels_stay : Stays labels_in
  labels_stay = rule_stays (λ kind. map (on_attribute (on_label_value shorter_string)))

  pub lists_stay : Stays lists_in
  lists_stay x =
      by_test (λ y. seen y ≡ seen x) (has_kind k.Assign x) (on_assigned settled_list x) (on_rule_arguments (λ kind. map (on_attribute (on_list_value settled_list kind))) x)
      (row_stays k.Assign (λ y. on_third (on_lists (settled_list (above y) false))) x) (rule_stays (λ kind. map (on_attribute (on_list_value settled_list kind))) x)

  pub arguments_stay : Stays arguments_in
  arguments_stay = rule_stays (λ kind. sort_by argument_precedes)

  pub symbols_stay : Stays symbols_in
  symbols_stay x =
      by_test (λ y. seen y ≡ seen x) (has_kind k.Load x) (with_items (on_rest (sort_by symbol_precedes) (items_of x)) x) x
      (outside.items (on_rest (sort_by symbol_precedes) (items_of x)) x) refl

  pub passes_stay : Stays after_passes
  passes_stay x =
      symbols_stay (arguments_in (lists_in (labels_in (quotes_in x))))
      ∙ (arguments_stay (lists_in (labels_in (quotes_in x))) ∙ (lists_stay (labels_in (quotes_in x)) ∙ (labels_stay (quotes_in x) ∙ outside.strings x)))

  pub taken_stays : Stays (taken after_passes)
  taken_stays x = by_test (λ y. seen y ≡ seen x) (any_marked leave_alone (above x)) x (after_passes x) refl (passes_stay x)

-- ---- passes in turn

abbrev pub SameAbove : (Expr → Expr) → Type 0
SameAbove change = (x : Expr) → above (change x) ≡ above x

taken_composed : (f g : Expr → Expr) → SameAbove f → (x : Expr) → taken g (taken f x) ≡ taken (λ y. g (f y)) x
taken_composed f g a x = elim (cases_Bool (any_marked leave_alone (above x))) [
  | inl t ↦ rw (t, t) refl
  | inr n ↦ rw (n, a x, n) refl
]

statement_composed : (f g : Expr → Expr) → SameAbove f → (item : Item) → on_statement (taken g) (on_statement (taken f) item) ≡ on_statement (taken (λ y. g (f y))) item
statement_composed f g a (i.Block lines) = refl
statement_composed f g a (i.Stmt x) = ap i.Stmt (taken_composed f g a x)

on_taken_composed : (f g : Expr → Expr) → SameAbove f → (items : List Item) → on_taken g (on_taken f items) ≡ on_taken (λ y. g (f y)) items
on_taken_composed f g a [] = refl
on_taken_composed f g a (item ∷ items) = both (λ z zs. z ∷ zs) (statement_composed f g a item) (on_taken_composed f g a items)

-- the five passes that go statement by statement, as one
pub five_composed : (items : List Item) → on_taken symbols_in (on_taken arguments_in (on_taken lists_in (on_taken labels_in (on_taken quotes_in items)))) ≡ on_taken after_passes items
five_composed items =
    let quoted : List Item = on_taken quotes_in items in
    let listed : List Item = on_taken lists_in (on_taken labels_in quoted) in
    on_taken_composed arguments_in symbols_in (arguments_stay above above_outside) listed
    ∙ (on_taken_composed lists_in (λ y. symbols_in (arguments_in y)) (lists_stay above above_outside) (on_taken labels_in quoted)
    ∙ (on_taken_composed labels_in (λ y. symbols_in (arguments_in (lists_in y))) (labels_stay above above_outside) quoted
    ∙ on_taken_composed quotes_in (λ y. symbols_in (arguments_in (lists_in (labels_in y)))) above_quoted items))
