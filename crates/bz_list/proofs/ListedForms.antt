-- The lists of a value and their items.
use Rattle.bz_list.proofs.Words.{[], ◌&&◌, ◌↔◌, ◌∙◌, ◌∷◌, ◌≡◌, Added as a, added_by, ap, are_one, argument_left, Arguments, attribute, Attributes, Attributes as t, body_of, Bool, both, by_there, by_value, Bytes, bytes_eq, chosen_in, cleared, Err, Expr, false, filter, first_text, flat_map, Form', has_lists, if_false, if_true, if◌then◌else◌, in_attributes, is_attribute, is_empty, is_empty_list, is_label_attribute, is_moved, is_no_list, is_other_attribute, is_some_item, IsTrue, item_changed_by, items_in, items_moved, items_of, Kind as k, List, list_any, list_of, lists_of, move, NoAttribute, None, not, NotAList, Ok, on_first_that, on_lists, on_value, Option, option_map_or, parts_of, plus, position, put_back, quoted_of, Selects, refl, remove_values, shortened, slice_get, slice_set, Some, some_filtered, string_text, substituted, sym, Token, true, true≢false, value_with, Values, values_left, with_body, with_items_added, with_more, with_new, with_text, with_value, with_value_same, without, without_chosen, without_items, ℕ}
use Rattle.bz_list.specs.declared.replacing.Change.{Change}
use Rattle.bz_list.specs.declared.replacing.Change.TheVariants.{Replace, Substitute, Shorten}
use Rattle.bz_attribute.proofs.ArgumentPlaces as places
use Rattle.bz_command_syntax.specs.declared.command.Selects.TheVariants.{Skipped}
use Rattle.bz_list.proofs.EditedLists.{value_kept}

pub not_emptied : (xs : List Expr) → IsTrue false ↔ (xs ≡ []) → is_empty xs ≡ false
not_emptied [] h = sym (h.1 refl)
not_emptied (x ∷ xs) h = refl

-- ---- values whose lists are changed: what stays as it is, and the attribute without items

-- ---- an attribute without items

abbrev put_by : Bool → Bool → Expr → List Expr → List Expr → List Expr
put_by is_changed is_none value gone there = if is_changed then (if is_none then gone else there) else there

left_by : (selects : Selects) (name : Bytes) (test : Expr → Bool) (b : Bool) (before : List Expr) (value : Expr) → attribute name before ≡ Some value → list_any test (items_in selects value) ≡ b
    → put_back name b (on_lists selects (filter (λ x. not (test x))) value) before ≡ (if b then cleared name (on_lists selects (filter (λ x. not (test x))) value) before else before)
left_by selects name test true before value own any = refl
left_by selects name test false before value own any = ap (λ x. with_value name x before) (value_kept test selects value any) ∙ with_value_same name value before own

-- the arguments from which the value was taken, with what is left of it put back
pub left_there : (selects : Selects) (name : Bytes) (test : Expr → Bool) (before after : List Expr) (value : Expr)
    → attribute name before ≡ Some value → ((other : Expr) → with_value name other after ≡ with_value name other before) → without name after ≡ without name before
    → put_back name (not (is_empty (filter test (items_in selects value)))) (on_lists selects (filter (λ x. not (test x))) value) after ≡ without_chosen selects name test (attribute name before) before
left_there selects name test before after value own place gone =
    let left : Expr = on_lists selects (filter (λ x. not (test x))) value in
    ap (λ b. put_back name b left after) (some_filtered test (items_in selects value))
    ∙ (both (put_by (list_any test (items_in selects value)) (is_empty_list left) left) gone (place left)
    ∙ (left_by selects name test (list_any test (items_in selects value)) before value own refl ∙ ap (λ found. without_chosen selects name test found before) (sym own)))

-- what `remove` makes, by what is left
pub removed : (selects : Selects) (current name : Bytes) (words : List Bytes) (arguments left : List Expr) (chosen : Expr → Bool) (value : Expr) → chosen ≡ is_some_item current name words
    → attribute name arguments ≡ Some value → is_no_list value ≡ false → left ≡ without_chosen selects name chosen (attribute name arguments) arguments → remove_values selects current name words arguments ≡ Ok left
removed selects current name words arguments left chosen value same own listable is =
    by_there (attribute name arguments) value (Ok arguments) (λ value. if is_no_list value then Err NotAList else Ok (without_items selects name (is_some_item current name words) value arguments)) own
    ∙ (if_false (is_no_list value) (Err NotAList) _ listable ∙ ap Ok (sym (is ∙ both (λ test found. without_chosen selects name test found arguments) same own)))

-- ---- what `move` makes, by the items that it takes

module _ (current from to : Bytes) (values : Values) (arguments : List Expr) (chosen : Expr → Bool) (same : chosen ≡ is_moved current from values) where
  abbrev test : Expr → Bool
  test = is_moved current from values

  abbrev from_value : Option Expr → Arguments
  from_value found =
      by_value found (Err NoAttribute)
      (λ value.
      if not (has_lists Skipped value) then Err NotAList
      else (if list_any test (items_in Skipped value) then items_moved current from to (filter test (items_in Skipped value)) (without_items Skipped from test value arguments) else Ok arguments))

  none_by : (b : Bool) (x : Arguments) (value : Expr) → b ≡ false
      → (if b then x else Ok arguments) ≡ Ok (if b then cleared from (on_lists Skipped (filter (λ y. not (test y))) value) arguments else arguments)
  none_by true x value h = absurd (true≢false h)
  none_by false x value h = refl

  any_taken : (value : Expr) (taken : List Expr) → taken ≡ filter test (items_in Skipped value) → list_any test (items_in Skipped value) ≡ not (is_empty taken)
  any_taken value taken e = sym (some_filtered test (items_in Skipped value)) ∙ ap (λ xs. not (is_empty xs)) (sym e)

  module _ (value : Expr) (taken left : List Expr) (own : attribute from arguments ≡ Some value) (lists : has_lists Skipped value ≡ true)
      (took : taken ≡ chosen_in Skipped chosen (attribute from arguments)) (is : left ≡ without_chosen Skipped from chosen (attribute from arguments) arguments) where
    all_taken : taken ≡ filter test (items_in Skipped value)
    all_taken = took ∙ both (λ t found. chosen_in Skipped t found) same own

    all_left : left ≡ without_items Skipped from test value arguments
    all_left = is ∙ both (λ t found. without_chosen Skipped from t found arguments) same own

    from_there : move current from to values arguments ≡ (if list_any test (items_in Skipped value) then items_moved current from to (filter test (items_in Skipped value)) (without_items Skipped from test value arguments) else Ok arguments)
    from_there = ap from_value own ∙ if_false (not (has_lists Skipped value)) (Err NotAList) _ (ap not lists)

    pub nothing_moved : taken ≡ [] → move current from to values arguments ≡ Ok left
    nothing_moved none = from_there ∙ (none_by (list_any test (items_in Skipped value)) _ value (any_taken value taken all_taken ∙ ap (λ xs. not (is_empty xs)) none) ∙ ap Ok (sym all_left))

    pub something_moved : is_empty taken ≡ false → move current from to values arguments ≡ with_items_added to (added_by current to (a.Moved taken)) left
    something_moved some =
        from_there
        ∙ (if_true (list_any test (items_in Skipped value)) _ _ (any_taken value taken all_taken ∙ ap not some)
        ∙ sym (both (λ xs ys. items_moved current from to xs ys) all_taken all_left))

-- ---- what further items make of a value

pub no_items : (value : Expr) → has_lists Skipped value ≡ false → items_in Skipped value ≡ []
no_items value h = by (lists_of Skipped value) h
  where
    by : (lists : List Expr) → not (is_empty lists) ≡ false → flat_map items_of lists ≡ []
    by [] e = refl
    by (x ∷ xs) e = absurd (true≢false e)

-- what has lists can be taken as one
pub some_lists : (value : Expr) → has_lists Skipped value ≡ true → is_no_list value ≡ false
some_lists (Token t) lists = absurd (true≢false (sym lists))
some_lists (Form' k.Dict s parts s' items end split open_break comments) lists = absurd (true≢false (sym lists))
some_lists (Form' _ s parts s' items end split open_break comments) lists = refl

pub added_found : (name : Bytes) (added : List Expr → List Expr) (xs : List Expr) (value : Expr) → attribute name xs ≡ Some value
    → with_items_added name added xs ≡ (if is_no_list value then Err NotAList else Ok (with_value name (value_with added value) xs))
added_found name added xs value found =
    by_there (attribute name xs) value (Ok (with_new name (list_of (added [])) xs)) (λ value. grown (has_lists Skipped value) (is_no_list value) (with_more (added (items_in Skipped value)) value) (plus value (list_of (added [])))) found
    ∙ by (has_lists Skipped value) (is_no_list value) (some_lists value) (with_more (added (items_in Skipped value)) value) (plus value (list_of (added [])))
  where
    grown : Bool → Bool → Expr → Expr → Arguments
    grown lists none more sum = if lists then Ok (with_value name more xs) else (if none then Err NotAList else Ok (with_value name sum xs))

    by : (lists none : Bool) → (lists ≡ true → none ≡ false) → (more sum : Expr) → grown lists none more sum ≡ (if none then Err NotAList else Ok (with_value name (if lists then more else sum) xs))
    by true none apart more sum = rw (apart refl) refl
    by false none apart more sum = refl

-- ---- the first element that passes, changed in its place; and where none passes

pub changed_there : {X : Type 0} (test : X → Bool) (f : X → X) (xs read : List X) (i : ℕ) (x new : X) → Some i ≡ position test read → read ≡ xs → slice_get xs i ≡ Some x → new ≡ f x
    → slice_set xs i new ≡ on_first_that test f xs
changed_there test f xs read i x new at same = places.changed_there test f xs i x new (at ∙ ap (position test) same)

pub changed_nowhere : {X : Type 0} (test : X → Bool) (f : X → X) (xs read : List X) → None ≡ position test read → read ≡ xs → xs ≡ on_first_that test f xs
changed_nowhere test f xs read none same = places.changed_nowhere test f xs (none ∙ ap (position test) same)

-- what is no plain string stays
pub no_body : (change : Change) (current name : Bytes) (x : Expr) → None ≡ body_of x → x ≡ item_changed_by change current name x
no_body (Replace old new) current name x e = ap (λ found. if option_map_or (are_one current name old.now) found false then with_text (string_text current name new.now) x else x) e
no_body (Substitute pattern template) current name x e = ap (λ found. option_map_or (λ body. with_body current name body (substituted pattern.now template.now body) x) found x) e
no_body Shorten current name x e =
    ap (λ found. option_map_or (λ text. if is_label_attribute name && not (bytes_eq (shortened current text) text) then with_text (quoted_of (shortened current text)) x else x) found x) e

-- the attribute of a name that is meant, changed in its place; and where there is none
module _ (attributes : Attributes) (name : Bytes) (change : Bytes → Expr → Expr) (xs : List Expr) (is : attributes ≡ t.Named name) where
  pub named_there : (i : ℕ) (x new : Expr) → slice_get xs i ≡ Some x → Some i ≡ position (is_attribute name) xs → new ≡ on_value (change name) x → slice_set xs i new ≡ in_attributes attributes change xs
  named_there i x new there at made = places.changed_there (is_attribute name) (on_value (change name)) xs i x new at there made ∙ sym (ap (λ attributes. in_attributes attributes change xs) is)

  pub named_nowhere : None ≡ position (is_attribute name) xs → xs ≡ in_attributes attributes change xs
  named_nowhere none = places.changed_nowhere (is_attribute name) (on_value (change name)) xs none ∙ sym (ap (λ attributes. in_attributes attributes change xs) is)

-- what is left of one argument, by what is left of the list of it alone
pub left_alone : (selects : Selects) (current name : Bytes) (words : List Bytes) (x : Expr) (before after : List Expr) (chosen : Expr → Bool) → is_other_attribute x ≡ true → name ≡ first_text (parts_of x) → before ≡ x ∷ []
    → chosen ≡ is_some_item current name words → after ≡ without_chosen selects name chosen (attribute name before) before → after ≡ argument_left selects current words x
left_alone selects current name words x before after chosen other named one same left =
    left
    ∙ (both (λ test xs. without_chosen selects name test (attribute name xs) xs) same one
    ∙ (by (is_some_item current name words) (attribute name (x ∷ []))
    ∙ (ap (λ own. values_left selects current own words (x ∷ [])) named
    ∙ sym (if_true (is_other_attribute x) (values_left selects current (first_text (parts_of x)) words (x ∷ [])) (x ∷ []) other))))
  where
    by : (test : Expr → Bool) (found : Option Expr) → without_chosen selects name test found (x ∷ []) ≡ option_map_or (λ value. without_items selects name test value (x ∷ [])) found (x ∷ [])
    by test None = refl
    by test (Some value) = refl
