-- The first item of a value's lists, changed and changed back.
use Rattle.bz_comment.proofs.Words.{[], ◌++◌, ◌||◌, ◌∙◌, ◌∷◌, ◌≡◌, ap, append-nil, Bool, branch_items, by_case, by_test, cases_Bool, Entered, entries_in, entries_of, Expr, false, find, find-append, flat_map, has_branch_item, has_kind, if_false, if_true, IfSome, inl, inr, is_select, items_at, items_back, items_filled, items_in, items_kind, items_of, Kind, Kind as k, List, list_any, list_any-append, listed, on_branch, on_first_at, on_first_branch, on_first_item, on_first_listed, on_first_operand, on_first_that, on_row, on_third, operands_after, operands_in, operands_of, Option, option_or, parts_filled, parts_kind, parts_of, refl, row_back, Selects, Skipped, Some, subst, sym, true, with_items, with_parts}
use Rattle.bz_attribute.proofs.ArgumentForms.{any_same}
use Rattle.bz_attribute.proofs.AttributesAgain.{none_found}
use Rattle.bz_comment.proofs.HostForms.{first_back, found_any, found_first}
use Rattle.bz_comment.proofs.Selects.{items_there, entries_changed, list_no_select, select_back, select_kind, select_no_list, select_same}

-- an item of one of the lists
pub any_joined : (test : Expr → Bool) (items : Expr → List Expr) (xs : List Expr) → list_any test (flat_map items xs) ≡ list_any (λ x. list_any test (items x)) xs
any_joined test items [] = refl
any_joined test items (x ∷ xs) = list_any-append test (items x) (flat_map items xs) ∙ ap (λ z. list_any test (items x) || z) (any_joined test items xs)

module _ (test : Expr → Bool) (f g : Expr → Expr) (same : (x : Expr) → test (f x) ≡ test x) where
  abbrev pub IsBack : Expr → Type 0
  IsBack x = g (f x) ≡ x

  -- Of the items that an expression has the first that passes is changed, and changed back.
  pub record Changes (items : Expr → List Expr) (to back : Expr → Expr) : Type 0 where
    pub kind_kept : (kind : Kind) (x : Expr) → has_kind kind (to x) ≡ has_kind kind x
    pub any_kept : (x : Expr) → list_any test (items (to x)) ≡ list_any test (items x)
    pub again : (x : Expr) → IfSome (find test (items x)) IsBack → back (to x) ≡ x

  -- ---- the first of several expressions that has such an item

  module _ (items : Expr → List Expr) (to back : Expr → Expr) (c : Changes items to back) where
    abbrev has : Expr → Bool
    has x = list_any test (items x)

    found_back : (xs : List Expr) → IfSome (find test (flat_map items xs)) IsBack → IfSome (find has xs) (λ x. back (to x) ≡ x)
    found_back [] h = tt
    found_back (x ∷ xs) h =
        let rest : Option Expr = find test (flat_map items xs) in
        let split : IfSome (option_or (find test (items x)) rest) IsBack = subst (λ (o : Option Expr). IfSome o IsBack) (find-append test (items x) (flat_map items xs)) h in
        by_case (λ (o : Option Expr). IfSome o (λ y. back (to y) ≡ y)) (has x) (Some x) (find has xs)
        (λ is. c.again x (found_first IsBack (find test (items x)) rest (found_any test (items x) ∙ is) split))
        (λ n. found_back xs (subst (λ (o : Option Expr). IfSome (option_or o rest) IsBack) (none_found (find test (items x)) (found_any test (items x) ∙ n)) split))

    row_again : (xs : List Expr) → IfSome (find test (flat_map items xs)) IsBack → on_first_that has back (on_first_that has to xs) ≡ xs
    row_again xs h = first_back has to back c.any_kept xs (found_back xs h)

    row_kept : (xs : List Expr) → list_any test (flat_map items (on_first_that has to xs)) ≡ list_any test (flat_map items xs)
    row_kept xs = any_joined test items (on_first_that has to xs) ∙ (any_same has to has c.any_kept xs ∙ sym (any_joined test items xs))

    -- ---- a value, or the operands of a sum

    abbrev in_operands : Expr → List Expr
    in_operands v = flat_map items (operands_of v)

    sum_changed : (v : Expr) → has_kind k.Sum v ≡ true → on_first_operand has to v ≡ with_parts (on_first_that has to (parts_of v)) v
    sum_changed v is = rw is refl

    operand_kind : (kind : Kind) (v : Expr) → has_kind kind (on_first_operand has to v) ≡ has_kind kind v
    operand_kind kind v =
        let ps : List Expr = on_first_that has to (parts_of v) in
        by_test (λ y. has_kind kind y ≡ has_kind kind v) (has_kind k.Sum v) (on_row k.Sum (on_first_that has to) v) (to v)
        (by_test (λ y. has_kind kind y ≡ has_kind kind v) (has_kind k.Sum v) (with_parts ps v) v (parts_kind kind ps v) refl) (c.kind_kept kind v)

    operands_in_sum : (v : Expr) → has_kind k.Sum v ≡ true → in_operands v ≡ flat_map items (parts_of v)
    operands_in_sum v is = ap (flat_map items) (if_true (has_kind k.Sum v) (parts_of v) (v ∷ []) is)

    operands_alone : (v : Expr) → has_kind k.Sum v ≡ false → in_operands v ≡ items v
    operands_alone v n = ap (flat_map items) (if_false (has_kind k.Sum v) (parts_of v) (v ∷ []) n) ∙ append-nil (items v)

    operand_any : (v : Expr) → list_any test (in_operands (on_first_operand has to v)) ≡ list_any test (in_operands v)
    operand_any v = elim (cases_Bool (has_kind k.Sum v)) [
      | inl is ↦
          let ps : List Expr = on_first_that has to (parts_of v) in
          ap (λ y. list_any test (in_operands y)) (sum_changed v is)
          ∙ (ap (list_any test) (operands_in_sum (with_parts ps v) (parts_kind k.Sum ps v ∙ is) ∙ ap (flat_map items) (parts_filled k.Sum ps v is))
          ∙ (row_kept (parts_of v) ∙ sym (ap (list_any test) (operands_in_sum v is))))
      | inr n ↦
          ap (λ y. list_any test (in_operands y)) (if_false (has_kind k.Sum v) (on_row k.Sum (on_first_that has to) v) (to v) n)
          ∙ (ap (list_any test) (operands_alone (to v) (c.kind_kept k.Sum v ∙ n)) ∙ (c.any_kept v ∙ sym (ap (list_any test) (operands_alone v n))))
    ]

    operand_again : (v : Expr) → IfSome (find test (in_operands v)) IsBack → on_first_operand has back (on_first_operand has to v) ≡ v
    operand_again v h =
        by_case (λ y. on_first_operand has back y ≡ v) (has_kind k.Sum v) (on_row k.Sum (on_first_that has to) v) (to v)
        (λ is.
        let y : Expr = on_row k.Sum (on_first_that has to) v in
        let ps : List Expr = on_first_that has to (parts_of v) in
        if_true (has_kind k.Sum y) (on_row k.Sum (on_first_that has back) y) (back y)
        (ap (has_kind k.Sum) (if_true (has_kind k.Sum v) (with_parts ps v) v is) ∙ (parts_kind k.Sum ps v ∙ is))
        ∙ row_back k.Sum (on_first_that has to) (on_first_that has back) v
        (λ _. row_again (parts_of v) (subst (λ xs. IfSome (find test xs) IsBack) (operands_in_sum v is) h)))
        (λ n.
        if_false (has_kind k.Sum (to v)) (on_row k.Sum (on_first_that has back) (to v)) (back (to v)) (c.kind_kept k.Sum v ∙ n)
        ∙ c.again v (subst (λ xs. IfSome (find test xs) IsBack) (operands_alone v n) h))

    pub in_value : Changes in_operands (on_first_operand has to) (on_first_operand has back)
    in_value = record { kind_kept = operand_kind; any_kept = operand_any; again = operand_again }

    -- ---- the value of an entry

    abbrev after_third : List Expr → List Expr
    after_third ps = flat_map items (operands_after ps)

    abbrev in_entry : Expr → List Expr
    in_entry x = flat_map items (operands_in x)

    abbrev on_value : Expr → Expr
    on_value = on_first_operand has to

    abbrev value_back : Expr → Expr
    value_back = on_first_operand has back

    third_any : (ps : List Expr) → list_any test (after_third (on_third on_value ps)) ≡ list_any test (after_third ps)
    third_any (x ∷ y ∷ z ∷ rest) = operand_any z
    third_any [] = refl
    third_any (x ∷ []) = refl
    third_any (x ∷ y ∷ []) = refl

    third_again : (ps : List Expr) → IfSome (find test (after_third ps)) IsBack → on_third value_back (on_third on_value ps) ≡ ps
    third_again (x ∷ y ∷ z ∷ rest) h = ap (λ v. x ∷ y ∷ v ∷ rest) (operand_again z h)
    third_again [] h = refl
    third_again (x ∷ []) h = refl
    third_again (x ∷ y ∷ []) h = refl

    entry_kind : (kind : Kind) (x : Expr) → has_kind kind (on_row k.Entry (on_third on_value) x) ≡ has_kind kind x
    entry_kind kind x =
        let ps : List Expr = on_third on_value (parts_of x) in
        by_test (λ y. has_kind kind y ≡ has_kind kind x) (has_kind k.Entry x) (with_parts ps x) x (parts_kind kind ps x) refl

    entry_any : (x : Expr) → list_any test (in_entry (on_row k.Entry (on_third on_value) x)) ≡ list_any test (in_entry x)
    entry_any x =
        let ps : List Expr = on_third on_value (parts_of x) in
        by_case (λ y. list_any test (in_entry y) ≡ list_any test (in_entry x)) (has_kind k.Entry x) (with_parts ps x) x
        (λ is.
        ap (λ xs. list_any test (flat_map items xs))
        (if_true (has_kind k.Entry (with_parts ps x)) (operands_after (parts_of (with_parts ps x))) [] (parts_kind k.Entry ps x ∙ is) ∙ ap operands_after (parts_filled k.Entry ps x is))
        ∙ (third_any (parts_of x)
        ∙ sym (ap (λ xs. list_any test (flat_map items xs)) (if_true (has_kind k.Entry x) (operands_after (parts_of x)) [] is))))
        (λ n. refl)

    entry_again : (x : Expr) → IfSome (find test (in_entry x)) IsBack → on_row k.Entry (on_third value_back) (on_row k.Entry (on_third on_value) x) ≡ x
    entry_again x h =
        row_back k.Entry (on_third on_value) (on_third value_back) x
        (λ is. third_again (parts_of x) (subst (λ xs. IfSome (find test (flat_map items xs)) IsBack) (if_true (has_kind k.Entry x) (operands_after (parts_of x)) [] is) h))

    pub in_branch : Changes in_entry (on_row k.Entry (on_third on_value)) (on_row k.Entry (on_third value_back))
    in_branch = record { kind_kept = entry_kind; any_kept = entry_any; again = entry_again }

  -- ---- lists

  list_kind : (kind : Kind) (x : Expr) → has_kind kind (on_first_listed test f x) ≡ has_kind kind x
  list_kind kind x =
      by_test (λ y. has_kind kind y ≡ has_kind kind x) (has_kind k.List x) (with_items (on_first_that test f (items_of x)) x) x
      (items_kind kind (on_first_that test f (items_of x)) x) refl

  list_any_kept : (x : Expr) → list_any test (listed (on_first_listed test f x)) ≡ list_any test (listed x)
  list_any_kept x =
      let xs : List Expr = on_first_that test f (items_of x) in
      by_case (λ y. list_any test (listed y) ≡ list_any test (listed x)) (has_kind k.List x) (with_items xs x) x
      (λ is.
      ap (list_any test) (if_true (has_kind k.List (with_items xs x)) (items_of (with_items xs x)) [] (items_kind k.List xs x ∙ is) ∙ items_filled k.List xs x is)
      ∙ (any_same test f test same (items_of x) ∙ sym (ap (list_any test) (if_true (has_kind k.List x) (items_of x) [] is))))
      (λ n. refl)

  list_again : (x : Expr) → IfSome (find test (listed x)) IsBack → on_first_listed test g (on_first_listed test f x) ≡ x
  list_again x h =
      items_back k.List (on_first_that test f) (on_first_that test g) x
      (λ is. first_back test f g same (items_of x) (subst (λ xs. IfSome (find test xs) IsBack) (if_true (has_kind k.List x) (items_of x) [] is) h))

  in_list : Changes listed (on_first_listed test f) (on_first_listed test g)
  in_list = record { kind_kept = list_kind; any_kept = list_any_kept; again = list_again }

  -- ---- the branches of a `select`

  in_entries : Changes branch_items (on_branch test f) (on_branch test g)
  in_entries = in_branch listed (on_first_listed test f) (on_first_listed test g) in_list

  abbrev branches : (Expr → Expr) → List Expr → List Expr
  branches change = on_first_that (has_branch_item test) (on_branch test change)

  entries_there : (x : Expr) → is_select x ≡ true → items_at Entered x ≡ flat_map branch_items (entries_of x)
  entries_there x is = ap (λ xs. xs ++ flat_map branch_items (entries_of x)) (select_no_list x is)

  -- what is no `select` has no entries
  only_listed : (x : Expr) → is_select x ≡ false → items_at Entered x ≡ listed x
  only_listed x n = ap (λ es. listed x ++ flat_map branch_items es) (if_false (is_select x) (entries_in (items_of x)) [] n) ∙ append-nil (listed x)

  select_any : (x : Expr) → is_select x ≡ true → list_any test (items_at Entered (on_first_branch test f x)) ≡ list_any test (items_at Entered x)
  select_any x is =
      ap (list_any test) (entries_there (on_first_branch test f x) (select_same (branches f) x ∙ is) ∙ ap (flat_map branch_items) (entries_changed (branches f) x is))
      ∙ (row_kept branch_items (on_branch test f) (on_branch test g) in_entries (entries_of x) ∙ sym (ap (list_any test) (entries_there x is)))

  select_again : (x : Expr) → is_select x ≡ true → IfSome (find test (items_at Entered x)) IsBack → on_first_branch test g (on_first_branch test f x) ≡ x
  select_again x is h =
      select_back (branches f) (branches g) x is
      (row_again branch_items (on_branch test f) (on_branch test g) in_entries (entries_of x) (subst (λ xs. IfSome (find test xs) IsBack) (entries_there x is) h))

  -- a list that is changed is no `select` either
  list_select : (x : Expr) → is_select x ≡ false → is_select (on_first_listed test f x) ≡ false
  list_select x n =
      by_case (λ y. is_select y ≡ false) (has_kind k.List x) (with_items (on_first_that test f (items_of x)) x) x
      (λ is. list_no_select (with_items (on_first_that test f (items_of x)) x) (items_kind k.List (on_first_that test f (items_of x)) x ∙ is)) (λ _. n)

  -- ---- operands

  at_kind : (kind : Kind) (x : Expr) → has_kind kind (on_first_at Entered test f x) ≡ has_kind kind x
  at_kind kind x = by_test (λ y. has_kind kind y ≡ has_kind kind x) (is_select x) (on_first_branch test f x) (on_first_listed test f x) (select_kind (branches f) kind x) (list_kind kind x)

  at_any : (x : Expr) → list_any test (items_at Entered (on_first_at Entered test f x)) ≡ list_any test (items_at Entered x)
  at_any x =
      by_case (λ y. list_any test (items_at Entered y) ≡ list_any test (items_at Entered x)) (is_select x) (on_first_branch test f x) (on_first_listed test f x)
      (select_any x)
      (λ n. ap (list_any test) (only_listed (on_first_listed test f x) (list_select x n)) ∙ (list_any_kept x ∙ sym (ap (list_any test) (only_listed x n))))

  at_again : (x : Expr) → IfSome (find test (items_at Entered x)) IsBack → on_first_at Entered test g (on_first_at Entered test f x) ≡ x
  at_again x h =
      by_case (λ y. on_first_at Entered test g y ≡ x) (is_select x) (on_first_branch test f x) (on_first_listed test f x)
      (λ is.
      let y : Expr = on_first_branch test f x in
      if_true (is_select y) (on_first_branch test g y) (on_first_listed test g y) (select_same (branches f) x ∙ is) ∙ select_again x is h)
      (λ n.
      let y : Expr = on_first_listed test f x in
      if_false (is_select y) (on_first_branch test g y) (on_first_listed test g y) (list_select x n)
      ∙ list_again x (subst (λ xs. IfSome (find test xs) IsBack) (only_listed x n) h))

  at_operand : (selects : Selects) → Changes (items_at selects) (on_first_at selects test f) (on_first_at selects test g)
  at_operand Skipped = in_list
  at_operand Entered = record { kind_kept = at_kind; any_kept = at_any; again = at_again }

  -- ---- values

  value_changes : (selects : Selects) → Changes (λ v. flat_map (items_at selects) (operands_of v)) (on_first_item selects test f) (on_first_item selects test g)
  value_changes selects = in_value (items_at selects) (on_first_at selects test f) (on_first_at selects test g) (at_operand selects)

  pub item_there_still : (selects : Selects) (v : Expr) → list_any test (items_in selects (on_first_item selects test f v)) ≡ list_any test (items_in selects v)
  item_there_still selects v =
      ap (list_any test) (sym (items_there selects (on_first_item selects test f v))) ∙ ((value_changes selects).any_kept v ∙ ap (list_any test) (items_there selects v))

  pub item_again : (selects : Selects) (v : Expr) → IfSome (find test (items_in selects v)) IsBack → on_first_item selects test g (on_first_item selects test f v) ≡ v
  item_again selects v h = (value_changes selects).again v (subst (λ xs. IfSome (find test xs) IsBack) (sym (items_there selects v)) h)
