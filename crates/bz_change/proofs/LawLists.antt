-- Values that are added to the list of a key, twice; and a `select` in the place of no value.
use Rattle.bz_change.proofs.Words.{[], ◌&&◌, ◌++◌, ◌||◌, ◌∙◌, ◌∷◌, ◌≡◌, ◌≤◌, amount, and_from, and_parts, any_same, ap, Arguments, attribute, attribute_changed, attribute_new, become_plain, Bool, both, by_case, by_test, by_there, by_value, Bytes, cases_Bool, Class as c, codes, dict_list_add, dict_of, entry_with, Err, Expr, false, has_key, has_kind, has_list_in, has_list_value, has_lists, if_false, if_true, IfOk, inl, inr, is_some, is_text, IsPlain, items_changed, items_filled, items_in, items_kind, items_of, items_same, Kind, Kind as k, List, list_any, list_of, list_put, ListAddedTwice, mark, node_parts, None, not, not-false, NotADict, NotAList, Ok, on_dict, on_entry, on_first_that, on_items, on_row, on_third, one_if, Option, option_map_or, or_left, or_parts, parts_filled, parts_kind, parts_of, quoted_of, refl, refuses_items, row_changed, row_same, SelectKeepsComments, Some, strings_added, subst, sym, takes_no_items, token, total, true, true≢false, with_items, with_more, with_new, with_parts, with_strings, with_value, with_value_same}
use Rattle.bz_command_syntax.specs.declared.command.Selects.TheVariants.{Skipped}
use Rattle.std.proofs.Math.Bool.{or-false}
use Rattle.bz_attribute.proofs.ListsThere.{lists_there}
use Rattle.bz_list.proofs.LawAdded.{items_list, there_more, there_new, with_strings_same}
use Rattle.bz_change.proofs.{KeyPlaces.value_key, LawDicts.dict_items, LawDicts.dict_there, LawDicts.new_key, LawDicts.there_last, ProperDicts.select_grows}

-- ---- a list that grows stays one

module _ (more : List Expr) where
  abbrev longer : Expr → Expr
  longer = on_items k.List (λ items. items ++ more)

  longer_kind : (kind : Kind) (x : Expr) → has_kind kind (longer x) ≡ has_kind kind x
  longer_kind kind x = by_test (λ (y : Expr). has_kind kind y ≡ has_kind kind x) (has_kind k.List x) (with_items (items_of x ++ more) x) x (items_kind kind (items_of x ++ more) x) refl

  more_has_lists : (value : Expr) → has_lists Skipped value ≡ true → has_lists Skipped (with_more more value) ≡ true
  more_has_lists value l =
      let change : List Expr → List Expr = on_first_that (has_kind k.List) longer in
      let any : Bool = list_any (has_kind k.List) (parts_of value) in
      by_case (λ (y : Expr). has_lists Skipped y ≡ true) (has_kind k.Sum value) (on_row k.Sum change value) (longer value)
      (λ is.
      let ps : List Expr = change (parts_of value) in
      ap (has_lists Skipped) (row_changed k.Sum change value is)
      ∙ (lists_there (with_parts ps value)
      ∙ (both (λ a b. a || b) (parts_kind k.List ps value)
      (both (λ a b. a && b) (parts_kind k.Sum ps value)
      (ap (list_any (has_kind k.List)) (parts_filled k.Sum ps value is) ∙ any_same (has_kind k.List) longer (has_kind k.List) (longer_kind k.List) (parts_of value)))
      ∙ (sym (lists_there value) ∙ l))))
      (λ n.
      let list : has_kind k.List value ≡ true = sym (or-false (has_kind k.List value)) ∙ (sym (ap (λ b. has_kind k.List value || (b && any)) n) ∙ (sym (lists_there value) ∙ l)) in
      lists_there (longer value) ∙ or_left (has_kind k.List (longer value)) (has_kind k.Sum (longer value) && list_any (has_kind k.List) (parts_of (longer value))) (longer_kind k.List value ∙ list))

-- ---- a new entry after others

module _ (key : Bytes) (change : Expr → Expr) (new : Expr) (own : has_key key new ≡ true) where
  last_changed : (items : List Expr) → list_any (has_key key) items ≡ false → on_first_that (has_key key) change (items ++ new ∷ []) ≡ items ++ change new ∷ []
  last_changed [] none = if_true (has_key key new) (change new ∷ []) (new ∷ []) own
  last_changed (x ∷ xs) none =
      let p = or_parts (has_key key x) (list_any (has_key key) xs) none in
      if_false (has_key key x) (change x ∷ xs ++ new ∷ []) (x ∷ on_first_that (has_key key) change (xs ++ new ∷ [])) p.0 ∙ ap (λ ys. x ∷ ys) (last_changed xs p.1)

  last_takes : has_list_value new ≡ true → (items : List Expr) → list_any (has_key key) items ≡ false → takes_no_items key (items ++ new ∷ []) ≡ false
  last_takes list [] none = if_true (has_key key new) (not (has_list_value new)) false own ∙ ap not list
  last_takes list (x ∷ xs) none =
      let p = or_parts (has_key key x) (list_any (has_key key) xs) none in
      if_false (has_key key x) (not (has_list_value x)) (takes_no_items key (xs ++ new ∷ [])) p.0 ∙ last_takes list xs p.1

-- ---- words that are added once more

module _ (current name : Bytes) (words : List Bytes) (plain : become_plain words ≡ true) where
  abbrev more : Expr → Expr
  more = with_strings current name words

  third_twice : (ps : List Expr) → has_list_in ps ≡ true → on_third more (on_third more ps) ≡ on_third more ps
  third_twice [] l = absurd (true≢false (sym l))
  third_twice (x ∷ []) l = absurd (true≢false (sym l))
  third_twice (x ∷ y ∷ []) l = absurd (true≢false (sym l))
  third_twice (x ∷ y ∷ z ∷ rest) l = ap (λ v. x ∷ y ∷ v ∷ rest) (with_strings_same current name words (more z) (there_more current name words z plain l))

  third_lists : (ps : List Expr) → has_list_in ps ≡ true → has_list_in (on_third more ps) ≡ true
  third_lists [] l = absurd (true≢false (sym l))
  third_lists (x ∷ []) l = absurd (true≢false (sym l))
  third_lists (x ∷ y ∷ []) l = absurd (true≢false (sym l))
  third_lists (x ∷ y ∷ z ∷ rest) l = more_has_lists (strings_added current name words (items_in Skipped z)) z l

  parts_after : (x : Expr) → has_kind k.Entry x ≡ true → parts_of (on_entry more x) ≡ on_third more (parts_of x)
  parts_after x is = ap parts_of (row_changed k.Entry (on_third more) x is) ∙ parts_filled k.Entry (on_third more (parts_of x)) x is

  entry_twice : (x : Expr) → has_list_value x ≡ true → on_entry more (on_entry more x) ≡ on_entry more x
  entry_twice x h =
      let p = and_parts (has_kind k.Entry x) (has_list_in (parts_of x)) h in
      let parts = parts_after x p.0 in
      row_same k.Entry (on_third more) (on_entry more x) (ap (on_third more) parts ∙ (third_twice (parts_of x) p.1 ∙ sym parts))

  entry_lists : (x : Expr) → has_list_value x ≡ true → has_list_value (on_entry more x) ≡ true
  entry_lists x h =
      let p = and_parts (has_kind k.Entry x) (has_list_in (parts_of x)) h in
      and_from (has_kind k.Entry (on_entry more x)) (has_list_in (parts_of (on_entry more x)))
      (ap (has_kind k.Entry) (row_changed k.Entry (on_third more) x p.0) ∙ (parts_kind k.Entry (on_third more (parts_of x)) x ∙ p.0)) (ap has_list_in (parts_after x p.0) ∙ third_lists (parts_of x) p.1)

  module _ (key : Bytes) (own_plain : IsPlain key) where
    abbrev changed : List Expr → List Expr
    changed items = on_first_that (has_key key) (on_entry more) items

    abbrev put : List Expr → List Expr
    put = list_put current name key words

    -- the key takes items then, and they are there
    abbrev IsDone : (List Expr → List Expr) → List Expr → Type 0
    IsDone change items = (takes_no_items key items ≡ false) × (change items ≡ items)

    key_stays : (x : Expr) → has_key key (on_entry more x) ≡ has_key key x
    key_stays x = ap (is_text key) (value_key more x)

    changed_twice : (items : List Expr) → takes_no_items key items ≡ false → IsDone changed (changed items)
    changed_twice [] h = (refl, refl)
    changed_twice (x ∷ xs) h = elim (cases_Bool (has_key key x)) [
      | inl is ↦
          let list : has_list_value x ≡ true = not-false (has_list_value x) (sym (if_true (has_key key x) (not (has_list_value x)) (takes_no_items key xs) is) ∙ h) in
          let y : Expr = on_entry more x in
          let own : has_key key y ≡ true = key_stays x ∙ is in
          subst (IsDone changed) (sym (if_true (has_key key x) (y ∷ xs) (x ∷ changed xs) is)) (
            if_true (has_key key y) (not (has_list_value y)) (takes_no_items key xs) own ∙ ap not (entry_lists x list),
            if_true (has_key key y) (on_entry more y ∷ xs) (y ∷ changed xs) own ∙ ap (λ z. z ∷ xs) (entry_twice x list),
          )
      | inr n ↦
          let rest = changed_twice xs (sym (if_false (has_key key x) (not (has_list_value x)) (takes_no_items key xs) n) ∙ h) in
          subst (IsDone changed) (sym (if_false (has_key key x) (on_entry more x ∷ xs) (x ∷ changed xs) n)) (
            if_false (has_key key x) (not (has_list_value x)) (takes_no_items key (changed xs)) n ∙ rest.0,
            if_false (has_key key x) (on_entry more x ∷ changed xs) (x ∷ changed (changed xs)) n ∙ ap (λ ys. x ∷ ys) rest.1,
          )
    ]

    abbrev new_value : Expr
    new_value = list_of (strings_added current name words [])

    abbrev new : Expr
    new = entry_with key new_value

    new_parts : parts_of new ≡ token c.String (quoted_of key) ∷ mark (codes ":") ∷ new_value ∷ []
    new_parts = node_parts k.Entry (token c.String (quoted_of key) ∷ mark (codes ":") ∷ new_value ∷ [])

    new_same : on_entry more new ≡ new
    new_same =
        row_same k.Entry (on_third more) new
        (ap (on_third more) new_parts
        ∙ (ap (λ (v : Expr). token c.String (quoted_of key) ∷ mark (codes ":") ∷ v ∷ [])
        (with_strings_same current name words new_value (there_new current name words new_value plain (items_list (strings_added current name words []))))
        ∙ sym new_parts))

    abbrev further : List Expr → List Expr
    further items = items ++ new ∷ []

    put_twice : (items : List Expr) → takes_no_items key items ≡ false → IsDone put (put items)
    put_twice items h = elim (cases_Bool (list_any (has_key key) items)) [
      | inl is ↦
          let there : list_any (has_key key) (changed items) ≡ true = any_same (has_key key) (on_entry more) (has_key key) key_stays items ∙ is in
          let twice = changed_twice items h in
          subst (IsDone put) (sym (if_true (list_any (has_key key) items) (changed items) (further items) is))
          (twice.0, if_true (list_any (has_key key) (changed items)) (changed (changed items)) (further (changed items)) there ∙ twice.1)
      | inr n ↦
          let own : has_key key new ≡ true = new_key key new_value own_plain in
          let there : list_any (has_key key) (further items) ≡ true = there_last key items new own in
          subst (IsDone put) (sym (if_false (list_any (has_key key) items) (changed items) (further items) n)) (
            last_takes key (on_entry more) new own (ap has_list_in new_parts) items n,
            if_true (list_any (has_key key) (further items)) (changed (further items)) (further (further items)) there
                ∙ (last_changed key (on_entry more) new own items n ∙ ap (λ (x : Expr). items ++ x ∷ []) new_same),
          )
    ]

    -- ---- the attribute's dict

    again : (xs : List Expr) (value : Expr) → attribute name xs ≡ Some value → has_kind k.Dict value ≡ true → IsDone put (items_of value) → dict_list_add current name key words xs ≡ Ok xs
    again xs value own is done =
        if_false (option_map_or (refuses_items key) (attribute name xs) false) (Err NotAList) (on_dict name put xs)
        (ap (λ (found : Option Expr). option_map_or (refuses_items key) found false) own ∙ both (λ a b. a && b) is done.0)
        ∙ (by_there (attribute name xs) value (Ok (with_new name (dict_of (put [])) xs)) (dict_there name put xs) own
        ∙ (if_true (has_kind k.Dict value) (Ok (with_value name (on_items k.Dict put value) xs)) (Err NotADict) is
        ∙ ap Ok (ap (λ (v : Expr). with_value name v xs) (items_same k.Dict put value done.1) ∙ with_value_same name value xs own)))

    abbrev IsAgain : List Expr → Type 0
    IsAgain new = dict_list_add current name key words new ≡ Ok new

    of_dict : (xs : List Expr) (found : Option Expr) → attribute name xs ≡ found → option_map_or (refuses_items key) found false ≡ false
        → IfOk (by_value found (Ok (with_new name (dict_of (put [])) xs)) (dict_there name put xs)) IsAgain
    of_dict xs None own none =
        let value : Expr = dict_of (put []) in
        again (with_new name value xs) value (attribute_new name value xs (ap (λ (o : Option Expr). is_some o) own)) refl (subst (IsDone put) (sym (dict_items (put []))) (put_twice [] refl))
    of_dict xs (Some value) own none =
        by_case (λ (r : Arguments). IfOk r IsAgain) (has_kind k.Dict value) (Ok (with_value name (on_items k.Dict put value) xs)) (Err NotADict)
        (λ is.
        let more_items : List Expr = put (items_of value) in
        let made : Expr = with_items more_items value in
        let takes : takes_no_items key (items_of value) ≡ false = sym (ap (λ b. b && takes_no_items key (items_of value)) is) ∙ none in
        subst (λ (v : Expr). IsAgain (with_value name v xs)) (sym (items_changed k.Dict put value is))
        (again (with_value name made xs) made (attribute_changed name value made xs own) (items_kind k.Dict more_items value ∙ is)
        (subst (IsDone put) (sym (items_filled k.Dict more_items value is)) (put_twice (items_of value) takes))))
        (λ n. tt)

    made_again : (xs : List Expr) → IfOk (dict_list_add current name key words xs) IsAgain
    made_again xs =
        by_case (λ (r : Arguments). IfOk r IsAgain) (option_map_or (refuses_items key) (attribute name xs) false) (Err NotAList) (on_dict name put xs) (λ refused. tt)
        (of_dict xs (attribute name xs) refl)

pub added_twice : ListAddedTwice
added_twice current name key words xs made own plain e = subst (λ (r : Arguments). IfOk r (λ ys. dict_list_add current name key words ys ≡ Ok ys)) e (made_again current name words plain key own xs)

-- ---- a select

pub select_keeps : SelectKeepsComments
select_keeps current name entries xs made absent e text =
    subst (λ (r : Arguments). IfOk r (λ ys. total (amount (one_if text)) xs ≤ total (amount (one_if text)) ys)) e (select_grows (one_if text) current name entries xs absent)
