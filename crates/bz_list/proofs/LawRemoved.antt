-- What `remove` took away is gone, so that removing again changes nothing.
use Rattle.bz_list.proofs.Words.{◌∙◌, ◌≡◌, ap, Arguments, attribute, attribute_changed, Bool, by_case, by_test, by_value, Bytes, cleared, Err, Expr, false, filter, Form', has_attribute, has_kind, if_false, if◌then◌else◌, is_empty_list, is_no_list, is_select, is_some, is_some_item, items_in, items_of, Kind, Kind as k, List, list_any, map, None, not, NotAList, Ok, on_first, on_items, on_lists, on_operand, on_operands, on_row, on_third, Option, option_map_or, parts_of, refl, remove_values, Selects, Some, subst, sym, Token, true, true≢false, with_items, with_parts, with_value, without, without_items}
use Rattle.bz_command_syntax.specs.declared.command.Selects.TheVariants.{Skipped, Entered}
use Rattle.bz_list.specs.Laws.{are_gone, RemovedIsGone, RemovedTwice}
use Rattle.bz_list.proofs.EditedLists.{left, none_in_lists}

-- ---- what can be taken as a list can be after a change of its lists

items_listable : (xs : List Expr) (x : Expr) → is_no_list (with_items xs x) ≡ is_no_list x
items_listable xs (Token t) = refl
items_listable xs (Form' kind s parts s' items end split open_break comments) = refl

parts_listable : (xs : List Expr) (x : Expr) → is_no_list (with_parts xs x) ≡ is_no_list x
parts_listable xs (Token t) = refl
parts_listable xs (Form' kind s parts s' items end split open_break comments) = refl

on_items_listable : (kind : Kind) (change : List Expr → List Expr) (x : Expr) → is_no_list (on_items kind change x) ≡ is_no_list x
on_items_listable kind change x = by_test (λ (y : Expr). is_no_list y ≡ is_no_list x) (has_kind kind x) (with_items (change (items_of x)) x) x (items_listable (change (items_of x)) x) refl

operand_listable : (selects : Selects) (change : List Expr → List Expr) (x : Expr) → is_no_list (on_operand selects (on_items k.List change) x) ≡ is_no_list x
operand_listable Skipped change x = on_items_listable k.List change x
operand_listable Entered change x =
    let y : Expr = on_items k.List change x in
    let in_dicts : List Expr → List Expr = on_first (on_items k.Dict (map (on_row k.Entry (on_third (on_operands (on_items k.List change)))))) in
    by_test (λ (z : Expr). is_no_list z ≡ is_no_list x) (is_select y) (on_items k.Call in_dicts y) y (on_items_listable k.Call in_dicts y ∙ on_items_listable k.List change x) (on_items_listable k.List change x)

lists_listable : (selects : Selects) (change : List Expr → List Expr) (x : Expr) → is_no_list (on_lists selects change x) ≡ is_no_list x
lists_listable selects change x =
    let in_operand : Expr → Expr = on_operand selects (on_items k.List change) in
    by_test (λ (y : Expr). is_no_list y ≡ is_no_list x) (has_kind k.Sum x) (on_row k.Sum (map in_operand) x) (in_operand x)
    (by_test (λ (y : Expr). is_no_list y ≡ is_no_list x) (has_kind k.Sum x) (with_parts (map in_operand (parts_of x)) x) x (parts_listable (map in_operand (parts_of x)) x) refl)
    (operand_listable selects change x)

-- ---- the value that is left

none_there : (found : Option Expr) → is_some found ≡ false → found ≡ None
none_there None h = refl
none_there (Some value) h = absurd (true≢false h)

made_equal : (x y : List Expr) (made : Arguments) → made ≡ Ok x → made ≡ Ok y → x ≡ y
made_equal x y made d e = cc

apart : (x : List Expr) (made : Arguments) → made ≡ Err NotAList → made ≡ Ok x → ⊥
apart x made d e = cc

module _ (selects : Selects) (current name : Bytes) (words : List Bytes) where
  abbrev test : Expr → Bool
  test = is_some_item current name words

  -- a value that is there can be taken as a list, and has none of the words
  abbrev Settled : Option Expr → Type 0
  Settled None = Unit {0}
  Settled (Some value) = (list_any test (items_in selects value) ≡ false) × (is_no_list value ≡ false)

  module _ (xs new : List Expr) (once : has_attribute name (without name xs) ≡ false) where
    abbrev from : Expr → Arguments
    from value = if is_no_list value then Err NotAList else Ok (without_items selects name test value xs)

    less_settled : (value : Expr) → attribute name xs ≡ Some value → is_no_list value ≡ false → Settled (attribute name (without_items selects name test value xs))
    less_settled value own listable =
        let less : Expr = on_lists selects (filter (left test)) value in
        by_case (λ (ys : List Expr). Settled (attribute name ys)) (list_any test (items_in selects value)) (cleared name less xs) xs
        (λ any.
        by_test (λ (ys : List Expr). Settled (attribute name ys)) (is_empty_list less) (without name xs) (with_value name less xs)
        (subst Settled (sym (none_there (attribute name (without name xs)) once)) tt)
        (subst Settled (sym (attribute_changed name value less xs own)) (none_in_lists test selects value, lists_listable selects (filter (left test)) value ∙ listable)))
        (λ none. subst Settled (sym own) (none, listable))

    there_settled : (value : Expr) (b : Bool) → attribute name xs ≡ Some value → is_no_list value ≡ b → from value ≡ Ok new → Settled (attribute name new)
    there_settled value true own listable e = absurd (apart new (from value) (ap (λ b. if b then Err NotAList else Ok (without_items selects name test value xs)) listable) e)
    there_settled value false own listable e =
        subst (λ (ys : List Expr). Settled (attribute name ys))
        (made_equal (without_items selects name test value xs) new (from value) (if_false (is_no_list value) (Err NotAList) (Ok (without_items selects name test value xs)) listable) e)
        (less_settled value own listable)

    settled_by : (found : Option Expr) → attribute name xs ≡ found → by_value found (Ok xs) from ≡ Ok new → Settled (attribute name new)
    settled_by None own e = subst (λ (ys : List Expr). Settled (attribute name ys)) (made_equal xs new (Ok xs) refl e) (subst Settled (sym own) tt)
    settled_by (Some value) own e = there_settled value (is_no_list value) own refl e

    settled : remove_values selects current name words xs ≡ Ok new → Settled (attribute name new)
    settled e = settled_by (attribute name xs) refl e

  gone : (found : Option Expr) → Settled found → option_map_or (are_gone selects current name words) found true ≡ true
  gone None h = refl
  gone (Some value) h = ap not h.0

  again : (new : List Expr) (found : Option Expr) → Settled found → by_value found (Ok new) (λ value. if is_no_list value then Err NotAList else Ok (without_items selects name test value new)) ≡ Ok new
  again new None h = refl
  again new (Some value) h =
      if_false (is_no_list value) (Err NotAList) (Ok (without_items selects name test value new)) h.1
      ∙ ap Ok (if_false (list_any test (items_in selects value)) (cleared name (on_lists selects (filter (left test)) value) new) new h.0)

-- ---- the laws

pub removed_is_gone : RemovedIsGone
removed_is_gone selects current name words arguments new once e = gone selects current name words (attribute name new) (settled selects current name words arguments new once e)

pub removing_twice : RemovedTwice
removing_twice selects current name words arguments new once e = again selects current name words new (attribute name new) (settled selects current name words arguments new once e)
