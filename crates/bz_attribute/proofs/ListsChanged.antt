-- The lists of a value that was changed are its lists, each changed; and a value none of whose lists changes stays as it is.
use Rattle.bz_attribute.proofs.Words.{[], ◌&&◌, ◌++◌, ◌∙◌, ◌∷◌, ◌≡◌, and_parts, ap, Bool, branches_of, by_case, by_test, cases_Bool, Class as c, codes, entries_in, entries_of, Expr, false, filter, flat_map, Form', has_kind, if◌then◌else◌, inl, inr, is_first_dict, is_kind, is_select, is_text, items-the_row-Expr, items_hidden-the_row-Expr-0, items_of, Kind, Kind as k, List, list_any, list_places, lists_of, map, on_branches, on_first, on_items, on_lists, on_operand, on_operands, on_row, on_third, only, operands_after, operands_in, operands_of, option_and_then, or_parts, parts_of, refl, Selects, sym, text_in, Token, true, true≢false, with_branches, with_items, with_parts}
use Rattle.std.proofs.lemmas.List.Elements.{filter-append}
use Rattle.std.proofs.lemmas.List.Folds.{list_any-append}
use Rattle.std.proofs.lemmas.List.{map-append}
use Rattle.bz_attribute.proofs.FormsAgain.{both, if_false, if_true, items_changed, items_filled, items_kind, items_same, parts_filled, parts_kind, row_changed, row_same}
use Rattle.bz_attribute.proofs.ListsThere.{any_flat}
use Rattle.bz_command_syntax.specs.declared.command.Selects.TheVariants.{Skipped, Entered}

-- ---- kinds stay

pub on_items_kind : (own kind : Kind) (change : List Expr → List Expr) (x : Expr) → has_kind kind (on_items own change x) ≡ has_kind kind x
on_items_kind own kind change x = by_test (λ (y : Expr). has_kind kind y ≡ has_kind kind x) (has_kind own x) (with_items (change (items_of x)) x) x (items_kind kind (change (items_of x)) x) refl

-- ---- the operands of a changed value

module _ (change : Expr → Expr) (kept : (x : Expr) → has_kind k.Sum (change x) ≡ has_kind k.Sum x) where
  pub operands_changed : (value : Expr) → operands_of (on_operands change value) ≡ map change (operands_of value)
  operands_changed value =
      let ps : List Expr = map change (parts_of value) in
      by_case (λ (y : Expr). operands_of y ≡ map change (operands_of value)) (has_kind k.Sum value) (on_row k.Sum (map change) value) (change value)
      (λ is.
      ap operands_of (row_changed k.Sum (map change) value is)
      ∙ (if_true (has_kind k.Sum (with_parts ps value)) (parts_of (with_parts ps value)) (with_parts ps value ∷ []) (parts_kind k.Sum ps value ∙ is)
      ∙ (parts_filled k.Sum ps value is ∙ ap (map change) (sym (if_true (has_kind k.Sum value) (parts_of value) (value ∷ []) is)))))
      (λ n.
      if_false (has_kind k.Sum (change value)) (parts_of (change value)) (change value ∷ []) (kept value ∙ n)
      ∙ ap (map change) (sym (if_false (has_kind k.Sum value) (parts_of value) (value ∷ []) n)))

-- ---- the entries of a changed `select`

parts_beside : (xs : List Expr) (x : Expr) → parts_of (with_items xs x) ≡ parts_of x
parts_beside xs (Token t) = refl
parts_beside xs (Form' own s parts s' items end split open_break comments) = items_hidden-the_row-Expr-0 (items-the_row-Expr _ parts)

all_three : (a b c : Bool) → a ≡ true → b ≡ true → c ≡ true → (a && (b && c)) ≡ true
all_three a b c e f g = rw (e, f, g) refl

module _ (change : Expr → Expr) where
  abbrev in_entry : Expr → Expr
  in_entry = on_row k.Entry (on_third change)

  abbrev in_dict : Expr → Expr
  in_dict = on_items k.Dict (map in_entry)

  pub branches_kind : (kind : Kind) (x : Expr) → has_kind kind (on_branches change x) ≡ has_kind kind x
  branches_kind kind x = by_test (λ (y : Expr). has_kind kind y ≡ has_kind kind x) (is_select x) (on_items k.Call (on_first in_dict) x) x (on_items_kind k.Call kind (on_first in_dict) x) refl

  first_dict : (xs : List Expr) → is_first_dict (on_first in_dict xs) ≡ is_first_dict xs
  first_dict [] = refl
  first_dict (x ∷ xs) = on_items_kind k.Dict k.Dict (map in_entry) x

  entries_first : (xs : List Expr) → is_first_dict xs ≡ true → entries_in (on_first in_dict xs) ≡ map in_entry (entries_in xs)
  entries_first [] is = refl
  entries_first (x ∷ xs) is = ap items_of (items_changed k.Dict (map in_entry) x is) ∙ items_filled k.Dict (map in_entry (items_of x)) x is

  entries_changed : (x : Expr) → entries_of (on_branches change x) ≡ map in_entry (entries_of x)
  entries_changed x =
      by_case (λ (y : Expr). entries_of y ≡ map in_entry (entries_of x)) (is_select x) (on_items k.Call (on_first in_dict) x) x
      (λ is.
      let p = and_parts _ _ is in
      let q = and_parts _ _ p.1 in
      let xs : List Expr = on_first in_dict (items_of x) in
      let y : Expr = with_items xs x in
      let filled : items_of y ≡ xs = items_filled k.Call xs x p.0 in
      let still : is_select y ≡ true =
      all_three _ _ _ (items_kind k.Call xs x ∙ p.0) (ap (λ ps. is_text (codes "select") (option_and_then (text_in c.Name) (only ps))) (parts_beside xs x) ∙ q.0) (ap is_first_dict filled ∙ (first_dict (items_of x) ∙ q.1)) in
      ap entries_of (items_changed k.Call (on_first in_dict) x p.0)
      ∙ (if_true (is_select y) (entries_in (items_of y)) [] still
      ∙ (ap entries_in filled ∙ (entries_first (items_of x) q.1 ∙ ap (map in_entry) (sym (if_true (is_select x) (entries_in (items_of x)) [] is))))))
      (λ n. if_false (is_select x) (entries_in (items_of x)) [] n ∙ ap (map in_entry) (sym (if_false (is_select x) (entries_in (items_of x)) [] n)))

-- ---- the branches of a changed `select`

module _ (change : Expr → Expr) (kept : (x : Expr) → has_kind k.Sum (change x) ≡ has_kind k.Sum x) where
  operands_third : (ps : List Expr) → operands_after (on_third (on_operands change) ps) ≡ map change (operands_after ps)
  operands_third (x ∷ y ∷ z ∷ rest) = operands_changed change kept z
  operands_third [] = refl
  operands_third (x ∷ []) = refl
  operands_third (x ∷ y ∷ []) = refl

  entry_changed : (entry : Expr) → operands_in (in_entry (on_operands change) entry) ≡ map change (operands_in entry)
  entry_changed entry =
      let ps : List Expr = on_third (on_operands change) (parts_of entry) in
      let y : Expr = with_parts ps entry in
      by_case (λ (z : Expr). operands_in z ≡ map change (operands_in entry)) (has_kind k.Entry entry) y entry
      (λ is.
      if_true (has_kind k.Entry y) (operands_after (parts_of y)) [] (parts_kind k.Entry ps entry ∙ is)
      ∙ (ap operands_after (parts_filled k.Entry ps entry is)
      ∙ (operands_third (parts_of entry) ∙ ap (map change) (sym (if_true (has_kind k.Entry entry) (operands_after (parts_of entry)) [] is)))))
      (λ n. if_false (has_kind k.Entry entry) (operands_after (parts_of entry)) [] n ∙ ap (map change) (sym (if_false (has_kind k.Entry entry) (operands_after (parts_of entry)) [] n)))

  each_entry : (es : List Expr) → flat_map operands_in (map (in_entry (on_operands change)) es) ≡ map change (flat_map operands_in es)
  each_entry [] = refl
  each_entry (e ∷ es) = both (λ xs ys. xs ++ ys) (entry_changed e) (each_entry es) ∙ sym (map-append change (operands_in e) (flat_map operands_in es))

  pub branches_changed : (x : Expr) → branches_of (on_branches (on_operands change) x) ≡ map change (branches_of x)
  branches_changed x = ap (flat_map operands_in) (entries_changed (on_operands change) x) ∙ each_entry (entries_of x)

-- ---- the lists of a changed value

-- a list is no call
list_kind : (kind : Kind) → is_kind kind k.List ≡ true → is_kind kind k.Call ≡ false
list_kind k.List h = refl
list_kind _ h = absurd (true≢false (sym h))

pub list_no_select : (x : Expr) → has_kind k.List x ≡ true → is_select x ≡ false
list_no_select (Token t) h = refl
list_no_select (Form' kind s parts s' items end split open_break comments) h = rw (list_kind kind h) refl

pub no_branches : (x : Expr) → is_select x ≡ false → branches_of x ≡ []
no_branches x n = ap (flat_map operands_in) (if_false (is_select x) (entries_in (items_of x)) [] n)

module _ (change : List Expr → List Expr) where
  abbrev own : Expr → Expr
  own = on_items k.List change

  abbrev lists : List Expr → List Expr
  lists = filter (has_kind k.List)

  own_kind : (kind : Kind) (x : Expr) → has_kind kind (own x) ≡ has_kind kind x
  own_kind kind x = on_items_kind k.List kind change x

  entered_kind : (kind : Kind) (x : Expr) → has_kind kind (on_operand Entered own x) ≡ has_kind kind x
  entered_kind kind x = branches_kind (on_operands own) kind (own x) ∙ own_kind kind x

  mapped_step : (b : Bool) (x : Expr) (ys zs : List Expr) → ys ≡ map own zs → (if b then own x ∷ ys else ys) ≡ map own (if b then x ∷ zs else zs)
  mapped_step true x ys zs e = ap (λ ws. own x ∷ ws) e
  mapped_step false x ys zs e = e

  lists_mapped : (xs : List Expr) → lists (map own xs) ≡ map own (lists xs)
  lists_mapped [] = refl
  lists_mapped (x ∷ xs) =
      ap (λ b. if b then own x ∷ lists (map own xs) else lists (map own xs)) (own_kind k.List x)
      ∙ mapped_step (has_kind k.List x) x (lists (map own xs)) (lists xs) (lists_mapped xs)

  list_alone : (x : Expr) → has_kind k.List x ≡ true → lists (with_branches x) ≡ x ∷ []
  list_alone x is = ap (λ ys. lists (x ∷ ys)) (no_branches x (list_no_select x is)) ∙ if_true (has_kind k.List x) (x ∷ []) [] is

  lists_within : (x : Expr) → lists (with_branches (on_operand Entered own x)) ≡ map own (lists (with_branches x))
  lists_within x = elim (cases_Bool (has_kind k.List x)) [
    | inl is ↦
        let still : has_kind k.List (own x) ≡ true = own_kind k.List x ∙ is in
        ap (λ y. lists (with_branches y)) (if_false (is_select (own x)) (on_items k.Call (on_first (in_dict (on_operands own))) (own x)) (own x) (list_no_select (own x) still))
        ∙ (list_alone (own x) still ∙ ap (map own) (sym (list_alone x is)))
    | inr n ↦
        let y : Expr = on_branches (on_operands own) x in
        ap (λ z. lists (with_branches (on_branches (on_operands own) z))) (if_false (has_kind k.List x) (with_items (change (items_of x)) x) x n)
        ∙ (if_false (has_kind k.List y) (y ∷ lists (branches_of y)) (lists (branches_of y)) (branches_kind (on_operands own) k.List x ∙ n)
        ∙ (ap lists (branches_changed own (own_kind k.Sum) x)
        ∙ (lists_mapped (branches_of x) ∙ ap (map own) (sym (if_false (has_kind k.List x) (x ∷ lists (branches_of x)) (lists (branches_of x)) n)))))
  ]

  lists_among : (xs : List Expr) → lists (flat_map with_branches (map (on_operand Entered own) xs)) ≡ map own (lists (flat_map with_branches xs))
  lists_among [] = refl
  lists_among (x ∷ xs) =
      filter-append (has_kind k.List) (with_branches (on_operand Entered own x)) (flat_map with_branches (map (on_operand Entered own) xs))
      ∙ (both (λ ys zs. ys ++ zs) (lists_within x) (lists_among xs)
      ∙ (sym (map-append own (lists (with_branches x)) (lists (flat_map with_branches xs)))
      ∙ ap (map own) (sym (filter-append (has_kind k.List) (with_branches x) (flat_map with_branches xs)))))

  pub lists_changed : (selects : Selects) (value : Expr) → lists_of selects (on_lists selects change value) ≡ map own (lists_of selects value)
  lists_changed Skipped value = ap lists (operands_changed own (own_kind k.Sum) value) ∙ lists_mapped (operands_of value)
  lists_changed Entered value = ap (λ xs. lists (flat_map with_branches xs)) (operands_changed (on_operand Entered own) (entered_kind k.Sum) value) ∙ lists_among (operands_of value)

-- ---- a value none of whose lists changes

-- what changes passes a test, and nothing passes
module _ (test : Expr → Bool) (change : Expr → Expr) (same : (x : Expr) → test x ≡ false → change x ≡ x) where
  pub each_same : (xs : List Expr) → list_any test xs ≡ false → map change xs ≡ xs
  each_same [] n = refl
  each_same (x ∷ xs) n = let p = or_parts (test x) (list_any test xs) n in both (λ y ys. y ∷ ys) (same x p.0) (each_same xs p.1)

  pub operands_same : (value : Expr) → list_any test (operands_of value) ≡ false → on_operands change value ≡ value
  operands_same value n =
      by_case (λ (y : Expr). y ≡ value) (has_kind k.Sum value) (on_row k.Sum (map change) value) (change value)
      (λ is. row_same k.Sum (map change) value (each_same (parts_of value) (ap (list_any test) (sym (if_true (has_kind k.Sum value) (parts_of value) (value ∷ []) is)) ∙ n)))
      (λ alone. same value (or_parts (test value) false (ap (list_any test) (sym (if_false (has_kind k.Sum value) (parts_of value) (value ∷ []) alone)) ∙ n)).0)

  third_same : (ps : List Expr) → list_any test (operands_after ps) ≡ false → on_third (on_operands change) ps ≡ ps
  third_same (x ∷ y ∷ z ∷ rest) n = ap (λ v. x ∷ y ∷ v ∷ rest) (operands_same z n)
  third_same [] n = refl
  third_same (x ∷ []) n = refl
  third_same (x ∷ y ∷ []) n = refl

  entry_same : (entry : Expr) → list_any test (operands_in entry) ≡ false → in_entry (on_operands change) entry ≡ entry
  entry_same entry n =
      by_case (λ (y : Expr). y ≡ entry) (has_kind k.Entry entry) (with_parts (on_third (on_operands change) (parts_of entry)) entry) entry
      (λ is.
      sym (if_true (has_kind k.Entry entry) (with_parts (on_third (on_operands change) (parts_of entry)) entry) entry is)
      ∙ row_same k.Entry (on_third (on_operands change)) entry
      (third_same (parts_of entry) (ap (list_any test) (sym (if_true (has_kind k.Entry entry) (operands_after (parts_of entry)) [] is)) ∙ n)))
      (λ other. refl)

  entries_same : (es : List Expr) → list_any test (flat_map operands_in es) ≡ false → map (in_entry (on_operands change)) es ≡ es
  entries_same [] n = refl
  entries_same (e ∷ es) n =
      let p = or_parts (list_any test (operands_in e)) (list_any test (flat_map operands_in es)) (sym (list_any-append test (operands_in e) (flat_map operands_in es)) ∙ n) in
      both (λ y ys. y ∷ ys) (entry_same e p.0) (entries_same es p.1)

  first_same : (xs : List Expr) → list_any test (flat_map operands_in (entries_in xs)) ≡ false → on_first (in_dict (on_operands change)) xs ≡ xs
  first_same [] n = refl
  first_same (x ∷ xs) n = ap (λ y. y ∷ xs) (items_same k.Dict (map (in_entry (on_operands change))) x (entries_same (items_of x) n))

  branches_same : (x : Expr) → list_any test (branches_of x) ≡ false → on_branches (on_operands change) x ≡ x
  branches_same x n =
      by_case (λ (y : Expr). y ≡ x) (is_select x) (on_items k.Call (on_first (in_dict (on_operands change))) x) x
      (λ is.
      items_same k.Call (on_first (in_dict (on_operands change))) x
      (first_same (items_of x) (ap (λ es. list_any test (flat_map operands_in es)) (sym (if_true (is_select x) (entries_in (items_of x)) [] is)) ∙ n)))
      (λ other. refl)

  within_same : (x : Expr) → list_any test (with_branches x) ≡ false → on_operand Entered change x ≡ x
  within_same x n = let p = or_parts (test x) (list_any test (branches_of x)) n in ap (on_branches (on_operands change)) (same x p.0) ∙ branches_same x p.1

pub places_same : (test : Expr → Bool) (change : Expr → Expr) → ((x : Expr) → test x ≡ false → change x ≡ x)
    → (selects : Selects) (value : Expr) → list_any test (list_places selects value) ≡ false → on_operands (on_operand selects change) value ≡ value
places_same test change same Skipped value n = operands_same test change same value n
places_same test change same Entered value n =
    operands_same (λ x. list_any test (with_branches x)) (on_operand Entered change) (within_same test change same) value (any_flat test with_branches (operands_of value) ∙ n)
