-- The lists of a value edited in their places, and the items that go from them.
use Rattle.bz_list.proofs.Words.{arith, get_or, Err, Ok, OnOk, Result, [], ◌++◌, ◌∙◌, ◌∷◌, ◌≡◌, ◌≤◌, any_listed, ap, append-nil, at_drop_all, Bool, branches_of, Bytes, drop, entries_of, entry_items, Expr, false, filter, flat_map, has_kind, if_false, if_true, if◌then◌else◌, in_sum, in_value, is_select, items_changed, items_filled, items_in, items_of, items_there, Kind as k, length, List, list_any, list_any-append, listed, lists_changed, map, no_branches, not, on_branches, on_items, on_items_kind, list_no_select, list_places, not-true, or_parts, own_items, true≢false, by_case, flat_map-append, ◌||◌, on_lists, on_operand, on_operands, operand_items, operands_in, operands_of, parts_of, places_same, refl, Selects, sym, takes, true, with_branches, with_items, ℕ}
use Rattle.bz_attribute.specs.Lists.{operands_after}
use Rattle.bz_attribute.proofs.ArgumentForms.{parts_Form}
use Rattle.bz_value.specs.declared.value.Form.{Form}
use Rattle.bz_value.specs.declared.value.Expr.TheVariants as e
use Rattle.bz_list.specs.declared.editing.Edit.{Edit}
use Rattle.bz_list.specs.declared.editing.Edit.TheVariants as d
use Rattle.bz_list.specs.declared.replacing.Change.{Change}
use Rattle.bz_command_syntax.specs.declared.command.Selects.TheVariants.{Skipped, Entered}

-- ---- the items of the lists in and below an operand

-- where each item is changed, none goes
pub none_taken : (edit : Edit) (change : Change) (current name : Bytes) (items xs : List Expr) → edit ≡ d.Change change → xs ≡ xs ++ filter (takes edit current name) items
none_taken edit change current name items xs is = sym (ap (λ (edit : Edit). xs ++ filter (takes edit current name) items) is ∙ (ap (λ ys. xs ++ ys) (none items) ∙ append-nil xs))
  where
    none : (ys : List Expr) → filter (λ x. false) ys ≡ []
    none [] = refl
    none (y ∷ ys) = none ys

pub on_ok : {A B : Type 0} (result : Result A B) (P : Type 0) → P → OnOk result P
on_ok (Ok a) P p = p
on_ok (Err e) P p = tt

-- the items of a value that is no sum
pub own_items_in : (value : Expr) → has_kind k.Sum value ≡ false → items_in Skipped value ≡ listed value
own_items_in value h = sym (in_value value h) ∙ append-nil (listed value)

-- the items of the lists of a value, by its operands as they are read
pub read_items : (read : List Expr) (value : Expr) → read ≡ operands_of value → flat_map listed read ≡ items_in Skipped value
read_items read value same = ap (flat_map listed) same ∙ sym (items_there Skipped value)

-- what was taken from the operands of a sum, after the last of them
taken_after : (test : Expr → Bool) (items : Expr → List Expr) (xs taken all : List Expr) (i : ℕ) → taken ++ filter test (flat_map items (drop i xs)) ≡ all → length xs ≤ i → taken ≡ all
taken_after test items xs taken all i so_far past = sym (append-nil taken) ∙ (sym (at_drop_all (λ rest. taken ++ filter test (flat_map items rest)) xs i past) ∙ so_far)

pub sum_taken : (test : Expr → Bool) (value : Expr) (xs taken old : List Expr) (i : ℕ) → has_kind k.Sum value ≡ true
    → taken ++ filter test (flat_map listed (drop i xs)) ≡ old ++ filter test (flat_map listed (parts_of value)) → length xs ≤ i → taken ≡ old ++ filter test (items_in Skipped value)
sum_taken test value xs taken old i sum so_far past =
    taken_after test listed xs taken (old ++ filter test (flat_map listed (parts_of value))) i so_far past ∙ ap (λ items. old ++ filter test items) (in_sum value sum)

-- an operand that is a list has no branches; of any other the lists are in its branches alone
module _ (change : List Expr → List Expr) where
  pub list_operand : (x : Expr) → has_kind k.List x ≡ true → on_items k.List change x ≡ on_operand Entered (on_items k.List change) x
  list_operand x is =
      let y : Expr = on_items k.List change x in
      sym (no_changed_branch (on_operands (on_items k.List change)) y (list_no_select y (on_items_kind k.List k.List change x ∙ is)))
    where
      no_changed_branch : (f : Expr → Expr) (y : Expr) → is_select y ≡ false → on_branches f y ≡ y
      no_changed_branch f y n = if_false (is_select y) _ y n

  pub other_operand : (x : Expr) → has_kind k.List x ≡ false → on_branches (on_operands (on_items k.List change)) x ≡ on_operand Entered (on_items k.List change) x
  other_operand x n = ap (on_branches (on_operands (on_items k.List change))) (sym (if_false (has_kind k.List x) (with_items (change (items_of x)) x) x n))

pub list_items : (x : Expr) → has_kind k.List x ≡ true → listed x ≡ operand_items x
list_items x is = sym (ap (λ ys. listed x ++ flat_map listed ys) (no_branches x (list_no_select x is)) ∙ append-nil (listed x))

flat_flat : (f : Expr → List Expr) (xs : List Expr) → flat_map listed (flat_map f xs) ≡ flat_map (λ x. flat_map listed (f x)) xs
flat_flat f [] = refl
flat_flat f (x ∷ xs) = flat_map-append listed (f x) (flat_map f xs) ∙ ap (λ ys. flat_map listed (f x) ++ ys) (flat_flat f xs)

pub other_items : (x : Expr) → has_kind k.List x ≡ false → flat_map entry_items (entries_of x) ≡ operand_items x
other_items x n = sym (ap (λ ys. ys ++ flat_map listed (branches_of x)) (if_false (has_kind k.List x) (items_of x) [] n) ∙ flat_flat operands_in (entries_of x))

-- the items of all lists, by the operands
all_items : (value : Expr) → items_in Entered value ≡ flat_map operand_items (operands_of value)
all_items value = items_there Entered value ∙ flat_flat with_branches (operands_of value)

pub alone_items : (value : Expr) → has_kind k.Sum value ≡ false → operand_items value ≡ items_in Entered value
alone_items value n = sym (all_items value ∙ (ap (flat_map operand_items) (if_false (has_kind k.Sum value) (parts_of value) (value ∷ []) n) ∙ append-nil (operand_items value)))

pub all_taken : (test : Expr → Bool) (value : Expr) (xs taken old : List Expr) (i : ℕ) → has_kind k.Sum value ≡ true
    → taken ++ filter test (flat_map operand_items (drop i xs)) ≡ old ++ filter test (flat_map operand_items (parts_of value)) → length xs ≤ i → taken ≡ old ++ filter test (items_in Entered value)
all_taken test value xs taken old i sum so_far past =
    taken_after test operand_items xs taken (old ++ filter test (flat_map operand_items (parts_of value))) i so_far past
    ∙ ap (λ items. old ++ filter test items) (sym (all_items value ∙ ap (flat_map operand_items) (if_true (has_kind k.Sum value) (parts_of value) (value ∷ []) sum)))

-- ---- a value none of whose items passes a test

module _ (test : Expr → Bool) where
  abbrev pub left : Expr → Bool
  left x = not (test x)

  none_step : (b : Bool) (x : Expr) (xs ys : List Expr) → b ≡ false → ys ≡ xs → (if not b then x ∷ ys else ys) ≡ x ∷ xs
  none_step true x xs ys h same = absurd (true≢false h)
  none_step false x xs ys h same = ap (λ zs. x ∷ zs) same

  none_gone : (xs : List Expr) → list_any test xs ≡ false → filter left xs ≡ xs
  none_gone [] h = refl
  none_gone (x ∷ xs) h = let p = or_parts (test x) (list_any test xs) h in none_step (test x) x xs (filter left xs) p.0 (none_gone xs p.1)

  list_stays : (b : Bool) (x : Expr) → list_any test (if b then items_of x else []) ≡ false → (if b then with_items (filter left (items_of x)) x else x) ≡ x
  list_stays true x h = ap (λ xs. with_items xs x) (none_gone (items_of x) h) ∙ own_items x
  list_stays false x h = refl

  pub value_kept : (selects : Selects) (x : Expr) → list_any test (items_in selects x) ≡ false → on_lists selects (filter left) x ≡ x
  value_kept selects x h =
      places_same (λ y. list_any test (listed y)) (on_items k.List (filter left)) (λ y n. list_stays (has_kind k.List y) y n) selects x
      (sym (any_listed test (list_places selects x)) ∙ (ap (list_any test) (sym (items_there selects x)) ∙ h))

  -- ---- what is left of a value has none that passes

  none_left : (xs : List Expr) → list_any test (filter left xs) ≡ false
  none_left [] = refl
  none_left (x ∷ xs) =
      by_case (λ (ys : List Expr). list_any test ys ≡ false) (left x) (x ∷ filter left xs) (filter left xs) (λ h. rw (not-true (test x) h) (none_left xs)) (λ h. none_left xs)

  none_in_each : (xs : List Expr) → list_any test (flat_map items_of (map (on_items k.List (filter left)) (filter (has_kind k.List) xs))) ≡ false
  none_in_each [] = refl
  none_in_each (x ∷ xs) =
      let shorter : Expr → Expr = on_items k.List (filter left) in
      let rest : List Expr = filter (has_kind k.List) xs in
      by_case (λ (ys : List Expr). list_any test (flat_map items_of (map shorter ys)) ≡ false) (has_kind k.List x) (x ∷ rest) rest
      (λ is.
      list_any-append test (items_of (shorter x)) (flat_map items_of (map shorter rest))
      ∙ (ap (λ ys. list_any test ys || list_any test (flat_map items_of (map shorter rest))) (ap items_of (items_changed k.List (filter left) x is) ∙ items_filled k.List (filter left (items_of x)) x is)
      ∙ (ap (λ b. b || list_any test (flat_map items_of (map shorter rest))) (none_left (items_of x)) ∙ none_in_each xs)))
      (λ n. none_in_each xs)

  pub none_in_lists : (selects : Selects) (value : Expr) → list_any test (items_in selects (on_lists selects (filter left) value)) ≡ false
  none_in_lists selects value = ap (λ xs. list_any test (flat_map items_of xs)) (lists_changed (filter left) selects value) ∙ none_in_each (list_places selects value)

-- ---- the items of an entry, by its third part

row_value : (row : List Expr) (d : Expr) → 3 ≤ length row → operands_of (get_or row 2 d) ≡ operands_after row
row_value (x ∷ y ∷ z ∷ rest) d h = refl
row_value [] d h = absurd (omega (arith, h))
row_value (x ∷ []) d h = absurd (omega (arith, h))
row_value (x ∷ y ∷ []) d h = absurd (omega (arith, h))

pub entry_taken : (form : Form) (entry : Expr) (row : List Expr) (d : Expr) → row ≡ form.parts → entry ≡ e.Form form → has_kind k.Entry entry ≡ true → 3 ≤ length row
    → items_in Skipped (get_or row 2 d) ≡ entry_items entry
entry_taken form entry row d same is kind long =
    items_there Skipped (get_or row 2 d)
    ∙ ap (flat_map listed)
    (row_value row d long
    ∙ (ap operands_after (same ∙ sym (parts_Form form))
    ∙ (ap (λ x. operands_after (parts_of x)) (sym is) ∙ sym (if_true (has_kind k.Entry entry) (operands_after (parts_of entry)) [] kind))))
