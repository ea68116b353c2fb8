-- Whether arguments stay the same, by what is put into them and what is taken from them.
use Rattle.bz_list.proofs.Words.{[], ◌++◌, ◌+◌, ◌||◌, ◌↔◌, ◌∙◌, ◌∷◌, ◌≡◌, ap, argument_of, arith, attribute, attribute_changed, attribute_first, Bool, by_case, by_test, Bytes, cases_Bool, cleared, Expr, false, filter, has_attribute, has_kind, has_lists, if_false, if_true, if◌then◌else◌, inl, inr, is_attribute, is_empty, is_empty_list, is_some, IsTrue, items_changed, items_filled, items_in, items_of, Kind as k, length, length-append, List, list_any, list_of, lists_there, node, not, on_first_that, on_items, on_lists, on_row, operand, or-false, parts_filled, parts_of, plus, refl, row_changed, Selects, Some, some_filtered, sum_no_list, sym, true, true≢false, with_more, with_new, with_parts, with_value, with_value_same, without, without_items}
use Rattle.bz_attribute.specs.Attributes.{inserted}
use Rattle.bz_command_syntax.specs.declared.command.Selects.TheVariants.{Skipped}
use Rattle.bz_list.proofs.EditedLists.{left, none_in_lists}
use Rattle.bz_list.proofs.LawAdded.{following, more_none}

-- what never holds
pub never : {P : Type 0} → (P → ⊥) → IsTrue false ↔ P
never f = (λ is. absurd (true≢false (sym is)), λ p. absurd (f p))

some_equal : (x y : Expr) → Some x ≡ Some y → x ≡ y
some_equal x y e = cc

-- ---- an attribute with another value, and a new one

pub put_same : (name : Bytes) (value new : Expr) (xs : List Expr) (same : Bool) → attribute name xs ≡ Some value → IsTrue same ↔ (new ≡ value) → IsTrue same ↔ (with_value name new xs ≡ xs)
put_same name value new xs same own is = (
  λ t. ap (λ v. with_value name v xs) (is.0 t) ∙ with_value_same name value xs own,
  λ e. is.1 (some_equal new value (sym (attribute_changed name value new xs own) ∙ (ap (attribute name) e ∙ own))),
)

inserted_length : (argument : Expr) (xs : List Expr) → length (inserted argument xs) ≡ length xs + 1
inserted_length argument [] = refl
inserted_length argument (x ∷ xs) =
    let h = inserted_length argument xs in
    by_test (λ (ys : List Expr). length ys ≡ length (x ∷ xs) + 1) (has_kind k.Star x) (argument ∷ x ∷ xs) (x ∷ inserted argument xs) (omega arith) (omega (arith, h))

pub other_new : (name : Bytes) (value : Expr) (xs : List Expr) → with_new name value xs ≡ xs → ⊥
other_new name value xs e =
    let long = inserted_length (argument_of name value) xs in
    let equal = ap length e in
    omega (arith, long, equal)

-- ---- items more

none_more : (xs ys : List Expr) → xs ++ ys ≡ xs → ys ≡ []
none_more xs [] e = refl
none_more xs (y ∷ ys) e = let equal = ap length e in let long = length-append xs (y ∷ ys) in absurd (omega (arith, equal, long))

module _ (more : List Expr) where
  abbrev longer : Expr → Expr
  longer = on_items k.List (λ items. items ++ more)

  none_in_list : (x : Expr) → has_kind k.List x ≡ true → longer x ≡ x → more ≡ []
  none_in_list x is e =
      none_more (items_of x) more (sym (items_filled k.List (items_of x ++ more) x is) ∙ ap items_of (sym (items_changed k.List (λ items. items ++ more) x is) ∙ e))

  heads : (x y : Expr) (xs ys : List Expr) → (x ∷ xs) ≡ (y ∷ ys) → x ≡ y
  heads x y xs ys e = cc

  tails : (x y : Expr) (xs ys : List Expr) → (x ∷ xs) ≡ (y ∷ ys) → xs ≡ ys
  tails x y xs ys e = cc

  none_in_first : (xs : List Expr) → list_any (has_kind k.List) xs ≡ true → on_first_that (has_kind k.List) longer xs ≡ xs → more ≡ []
  none_in_first [] any e = absurd (true≢false (sym any))
  none_in_first (x ∷ xs) any e = by (has_kind k.List x) refl any e (none_in_first xs)
    where
      by : (b : Bool) → has_kind k.List x ≡ b → (b || list_any (has_kind k.List) xs) ≡ true → (if b then longer x ∷ xs else x ∷ on_first_that (has_kind k.List) longer xs) ≡ (x ∷ xs)
          → (list_any (has_kind k.List) xs ≡ true → on_first_that (has_kind k.List) longer xs ≡ xs → more ≡ []) → more ≡ []
      by true is any e rest = none_in_list x is (heads (longer x) x xs xs e)
      by false is any e rest = rest any (tails x x (on_first_that (has_kind k.List) longer xs) xs e)

  none_in_value : (value : Expr) → has_lists Skipped value ≡ true → with_more more value ≡ value → more ≡ []
  none_in_value value lists e =
      let change : List Expr → List Expr = on_first_that (has_kind k.List) longer in
      let any : Bool = list_any (has_kind k.List) (parts_of value) in
      elim (cases_Bool (has_kind k.Sum value)) [
        | inl w ↦
            let some : any ≡ true = rw (sum_no_list value w, w) at (sym (lists_there value) ∙ lists) in
            let same : with_parts (change (parts_of value)) value ≡ value =
            sym (if_true (has_kind k.Sum value) (on_row k.Sum change value) (longer value) w ∙ row_changed k.Sum change value w) ∙ e in
            none_in_first (parts_of value) some (sym (parts_filled k.Sum (change (parts_of value)) value w) ∙ ap parts_of same)
        | inr n ↦
            let list : has_kind k.List value ≡ true = sym (or-false (has_kind k.List value)) ∙ (rw n at (sym (lists_there value) ∙ lists)) in
            none_in_list value list (sym (if_false (has_kind k.Sum value) (on_row k.Sum change value) (longer value) n) ∙ e)
      ]

  -- a value that has lists stays the same where there are none
  pub same_more : (value : Expr) (none : Bool) → has_lists Skipped value ≡ true → IsTrue none ↔ (more ≡ []) → IsTrue none ↔ (with_more more value ≡ value)
  same_more value none lists is = (λ t. ap (λ xs. with_more xs value) (is.0 t) ∙ more_none value, λ e. is.1 (none_in_value value lists e))

-- and a sum with a further list is another value
pub other_sum : (value : Expr) (items : List Expr) → plus value (list_of items) ≡ value → ⊥
other_sum value items e =
    let more : List Expr → List Expr = λ parts. parts ++ following items in
    let ps : List Expr = operand value ∷ following items in
    elim (cases_Bool (has_kind k.Sum value)) [
      | inl w ↦
          let same : with_parts (more (parts_of value)) value ≡ value = sym (if_true (has_kind k.Sum value) (on_row k.Sum more value) (node k.Sum ps) w ∙ row_changed k.Sum more value w) ∙ e in
          some_following items (none_more (parts_of value) (following items) (sym (parts_filled k.Sum (more (parts_of value)) value w) ∙ ap parts_of same))
      | inr n ↦ true≢false (ap (has_kind k.Sum) (sym (if_false (has_kind k.Sum value) (on_row k.Sum more value) (node k.Sum ps) n) ∙ e) ∙ n)
    ]
  where
    some_following : (xs : List Expr) → following xs ≡ [] → ⊥
    some_following xs e = absurd cc

-- ---- items less

module _ (test : Expr → Bool) where
  without_length : (name : Bytes) (xs : List Expr) → has_attribute name xs ≡ true → length (without name xs) + 1 ≡ length xs
  without_length name [] h = absurd (true≢false (sym h))
  without_length name (x ∷ xs) h =
      by_case (λ (ys : List Expr). length ys + 1 ≡ length (x ∷ xs)) (is_attribute name x) xs (x ∷ without name xs) (λ is. omega arith)
      (λ n. let less = without_length name xs (rw n at (sym (attribute_first name x xs) ∙ h)) in omega (arith, less))

  other_cleared : (selects : Selects) (name : Bytes) (value : Expr) (xs : List Expr) → attribute name xs ≡ Some value → list_any test (items_in selects value) ≡ true → cleared name (on_lists selects (filter (left test)) value) xs ≡ xs → ⊥
  other_cleared selects name value xs own any =
      let new : Expr = on_lists selects (filter (left test)) value in
      let fewer : new ≡ value → ⊥ = λ e. true≢false (sym any ∙ (ap (λ v. list_any test (items_in selects v)) (sym e) ∙ none_in_lists test selects value)) in
      by_test (λ (ys : List Expr). ys ≡ xs → ⊥) (is_empty_list new) (without name xs) (with_value name new xs)
      (λ e. let less = without_length name xs (ap (λ found. is_some found) own) in let equal = ap length e in omega (arith, less, equal))
      (λ e. true≢false (sym ((put_same name value new xs false own (never fewer)).1 e)))

  -- what is left of the arguments are all of them where nothing was taken
  pub same_left : (selects : Selects) (name : Bytes) (value : Expr) (xs taken : List Expr) (none : Bool) → attribute name xs ≡ Some value → taken ≡ filter test (items_in selects value) → IsTrue none ↔ (taken ≡ [])
      → IsTrue none ↔ (without_items selects name test value xs ≡ xs)
  same_left selects name value xs taken none own took is =
      by_case (λ (ys : List Expr). IsTrue none ↔ (ys ≡ xs)) (list_any test (items_in selects value)) (cleared name (on_lists selects (filter (left test)) value) xs) xs
      (λ any. (λ t. absurd (some_taken any (is.0 t)), λ e. absurd (other_cleared selects name value xs own any e)))
      (λ no. (λ t. refl, λ e. is.1 (took ∙ none_taken (filter test (items_in selects value)) (some_filtered test (items_in selects value) ∙ no))))
    where
      some_taken : list_any test (items_in selects value) ≡ true → taken ≡ [] → ⊥
      some_taken any e = true≢false (sym any ∙ (sym (some_filtered test (items_in selects value)) ∙ ap (λ ys. not (is_empty ys)) (sym took ∙ e)))

      none_taken : (ys : List Expr) → not (is_empty ys) ≡ false → ys ≡ []
      none_taken [] h = refl
      none_taken (y ∷ ys) h = absurd (true≢false h)
