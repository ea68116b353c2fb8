-- Lists of values with further items, with fewer and with other ones.
use Rattle.bz_list.proofs.Words.{[], ◌&&◌, ◌++◌, ◌||◌, ◌∷◌, ◌≡◌, add, AllByRecursion, are_one, argument_left, arriving, attribute, Attributes, body, body_of, Bool, by_case, by_test, Bytes, bytes_eq, Class, Class as c, cleared, eqb-true, equals_word, Err, Expr, false, filter, first_text, flat_map, Form', fresh, has_class, has_kind, has_lists, IfSome, if◌then◌else◌, in_attributes, is_attribute, is_class, is_empty_list, is_item, is_label_attribute, is_moved, is_no_list, is_other_attribute, is_some_item, is_there, IsUtf8, items-the_row-Expr, items_in, items_moved, items_of, items_stay, Kind, Kind as k, List, list_any, list_of, listed, map, move, NoAttribute, None, not, NotAList, Ok, on_first_that, on_items, on_lists, on_row, on_value, Option, option_and_then, option_map_or, operands_of, parts_of, plus, quoted_of, refl, remove_everywhere, remove_if_equal, remove_values, replace, replaced_item, row_stays, Selects, shortened, Some, Stays, string_in_place, string_text, strings_added, subst, substitute, substituted, substituted_item, sym, text_of, Token, travelled, true, true≢false, Values, values_left, with_body, with_items_added, with_more, with_new, with_strings, with_text, with_value, without, without_items}
use Rattle.bz_grammar.specs.Shapes as s
use Rattle.bz_grammar.proofs.Numbers.{same_kind}
use Rattle.bz_grammar.specs.Spots.{Spot, Within}
use Rattle.bz_value.specs.{LineShapes.Grammar, LineShapes.value_shape, Proper.ProperExpr, Proper.after_expr}
use Rattle.bz_value.proofs.FormParts.{ArePartsBy}
use Rattle.bz_command_syntax.specs.Proper.{AreUtf8, IsAttribute}
use Rattle.bz_rule.proofs.ProperForms.{InPlace, AsForm, itself, each_mapped, opened}
use Rattle.bz_rule.proofs.ProperItems.{IsValue, from_in_place, item_within, value_in_place, all_joined, all_kept, all_changed}
use Rattle.bz_rule.proofs.ProperArguments.{attribute_value}
use Rattle.bz_rule.proofs.ProperSequences.{IsItem, AreOf, list_apart, list_in_place, where_true}
use Rattle.bz_attribute.proofs.ListsThere as lists
use Rattle.bz_attribute.proofs.ProperAttributes.{first_that_stays, lists_stay, AreArguments, Made, Keeps, of_attribute, first_that_kept, value_stays, with_value_kept, without_kept, with_new_kept}
use Rattle.bz_list.specs.Changes.{in_value}
use Rattle.bz_list.proofs.LawAdded.{grown}
use Rattle.bz_attribute.proofs.ProperMade.{string_strung, quoted_string, list_value, plus_value, words_are_items}
use Rattle.bz_attribute.proofs.ProperTexts.{body_utf8, shortened_utf8}
use Rattle.bz_command_syntax.specs.declared.command.Attributes.TheVariants as t
use Rattle.bz_command_syntax.specs.declared.command.Selects.TheVariants.{Skipped}

-- ---- the items of a value

is_string : (class : Class) (text : Bytes) (said : Bytes → Bool) → option_map_or said (option_and_then body (if is_class class c.String then Some text else None)) false ≡ true → is_class class c.String ≡ true
is_string c.String text said h = refl
is_string _ text said h = absurd (true≢false (sym h))

item_is_string : (current attribute word : Bytes) (x : Expr) → is_item current attribute word x ≡ true → has_class c.String x ≡ true
item_is_string current attribute word (Token t) h = is_string t.class t.text (are_one current attribute word) h
item_is_string current attribute word (Form' kind s parts s' items end split open_break comments) h = absurd (true≢false (sym h))

-- a plain string is a string, and its body is a text of characters where it is one
string_body : (class : Class) (text inside : Bytes) → option_and_then body (if is_class class c.String then Some text else None) ≡ Some inside
    → (is_class class c.String ≡ true) × (IsUtf8 text → IsUtf8 inside)
string_body c.String text inside e = (refl, λ u. subst (λ (o : Option Bytes). IfSome o IsUtf8) e (body_utf8 text u))
string_body _ text inside e = absurd cc

body_there : (x : Expr) (inside : Bytes) → body_of x ≡ Some inside → (has_class c.String x ≡ true) × (IsUtf8 (text_of x) → IsUtf8 inside)
body_there (Token t) inside e = string_body t.class t.text inside e
body_there (Form' kind s parts s' items end split open_break comments) inside e = absurd cc

-- what a substitution makes of a text of characters is one
abbrev pub KeepsText : Bytes → Bytes → Type 0
KeepsText pattern template = (text : Bytes) → IsUtf8 text → IsUtf8 (substituted pattern template text)

pub fresh_utf8 : (current attribute : Bytes) (items : List Expr) (earlier words : List Bytes) → AreUtf8 words → AreUtf8 (fresh current attribute items earlier words)
fresh_utf8 current attribute items earlier [] u = tt
fresh_utf8 current attribute items earlier (word ∷ words) u =
    by_test AreUtf8 (list_any (are_one current attribute word) earlier || list_any (is_item current attribute word) items)
    (fresh current attribute items earlier words) (word ∷ fresh current attribute items (word ∷ earlier) words)
    (fresh_utf8 current attribute items earlier words u.1) (u.0, fresh_utf8 current attribute items (word ∷ earlier) words u.1)

module _ (grammar : Grammar) where
  -- proper somewhere
  abbrev Stands : Expr → Type 0
  Stands x = (here : Spot) × ProperExpr grammar here x

  items_there : (x : Expr) → has_kind k.List x ≡ true → Stands x → AreOf grammar s.test (items_of x)
  items_there (Token t) is h = tt
  items_there (Form' kind s parts s' items end split open_break comments) is h =
      list_apart grammar h.0 end split open_break (items-the_row-Expr _ parts) (items-the_row-Expr _ items)
      (subst (λ (by : Kind). AsForm grammar h.0 by (items-the_row-Expr _ parts) (items-the_row-Expr _ items) end split open_break) (same_kind kind k.List (eqb-true _ _ is)) (opened grammar h.0 (Form' kind s parts s' items end split open_break comments) h.1))

  listed_items : (x : Expr) → Stands x → AreOf grammar s.test (listed x)
  listed_items x h = by_case (AreOf grammar s.test) (has_kind k.List x) (items_of x) [] (λ is. items_there x is h) (λ n. tt)

  all_listed : (xs : List Expr) → AllByRecursion Stands xs → AreOf grammar s.test (flat_map listed xs)
  all_listed [] h = tt
  all_listed (x ∷ xs) h = all_joined (IsItem grammar s.test) (listed x) (flat_map listed xs) (listed_items x h.0) (all_listed xs h.1)

  each_stands : (binary : Bool) (outer here : Spot) (xs : List Expr) → ArePartsBy (value_shape grammar) binary outer here xs → AllByRecursion Stands xs
  each_stands binary outer here [] h = tt
  each_stands binary outer here (x ∷ xs) h = ((here, h.0), each_stands binary outer (after_expr outer here x) xs h.3)

  parts_there : (x : Expr) → has_kind k.Sum x ≡ true → Stands x → AllByRecursion Stands (parts_of x)
  parts_there (Token t) is h = tt
  parts_there (Form' kind s parts s' items end split open_break comments) is h =
      let f = subst (λ (by : Kind). AsForm grammar h.0 by (items-the_row-Expr _ parts) (items-the_row-Expr _ items) end split open_break) (same_kind kind k.Sum (eqb-true _ _ is)) (opened grammar h.0 (Form' kind s parts s' items end split open_break comments) h.1) in
      each_stands true h.0 h.0 (items-the_row-Expr _ parts) f.1.0

  pub value_items : (x : Expr) → IsValue grammar x → AreOf grammar s.test (items_in Skipped x)
  value_items x v =
      let h : Stands x = (Within, v.0.0.0) in
      subst (AreOf grammar s.test) (sym (lists.items_there Skipped x))
      (all_listed (operands_of x) (by_case (AllByRecursion Stands) (has_kind k.Sum x) (parts_of x) (x ∷ []) (λ is. parts_there x is h) (λ n. (h, tt))))

  -- ---- further items

  more_in_place : (more : List Expr) (x : Expr) → AreOf grammar s.test more → InPlace grammar x (with_more more x)
  more_in_place more x h =
      let grown : List Expr → List Expr = λ items. items ++ more in
      let stays : Stays grammar (on_items k.List grown) = list_in_place grammar grown (λ xs a. all_joined (IsItem grammar s.test) xs more a h) in
      by_test (InPlace grammar x) (has_kind k.Sum x) (on_row k.Sum (on_first_that (has_kind k.List) (on_items k.List grown)) x) (on_items k.List grown x)
      (row_stays grammar k.Sum refl (on_first_that (has_kind k.List) (on_items k.List grown)) (first_that_stays grammar (has_kind k.List) (on_items k.List grown) stays) x) (stays x)

  more_value : (more : List Expr) (x : Expr) → AreOf grammar s.test more → IsValue grammar x → IsValue grammar (with_more more x)
  more_value more x h v = value_in_place grammar x (with_more more x) (more_in_place more x h) v

  -- ---- fewer items

  pub fewer_value : (selects : Selects) (test : Expr → Bool) (x : Expr) → IsValue grammar x → IsValue grammar (on_lists selects (filter test) x)
  fewer_value selects test x v = value_in_place grammar x (on_lists selects (filter test) x) (lists_stay grammar selects (filter test) (list_in_place grammar (filter test) (λ xs a. all_kept (IsItem grammar s.test) test xs a)) x) v

  -- ---- other items

  pub replaced_item_stays : (current name old new : Bytes) → IsUtf8 new → Stays grammar (replaced_item current name old new)
  replaced_item_stays current name old new u x =
      where_true grammar (is_item current name old x) x (with_text (string_text current name new) x)
      (λ is. string_in_place grammar (string_text current name new) x (item_is_string current name old x is) (λ _. string_strung current name new u))

  -- what is in the value itself and in the items of its lists
  pub changed_value : (selects : Selects) (change : Expr → Expr) → Stays grammar change → (x : Expr) → IsValue grammar x → IsValue grammar (in_value selects change x)
  changed_value selects change stays x v =
      value_in_place grammar (change x) (on_lists selects (map change) (change x)) (lists_stay grammar selects (map change) (items_stay grammar k.List refl (map change) (each_mapped grammar change stays)) (change x))
      (value_in_place grammar x (change x) (stays x) v)

  substituted_string : (current name pattern template : Bytes) → KeepsText pattern template → (x : Expr) (found : Option Bytes) → body_of x ≡ found
      → InPlace grammar x (option_map_or (λ inside. with_body current name inside (substituted pattern template inside) x) found x)
  substituted_string current name pattern template keeps x None e = itself grammar x
  substituted_string current name pattern template keeps x (Some inside) e =
      let new : Bytes = substituted pattern template inside in
      let w = body_there x inside e in
      by_test (InPlace grammar x) (bytes_eq new inside) x (with_text (string_text current name new) x) (itself grammar x)
      (string_in_place grammar (string_text current name new) x w.0 (λ h. string_strung current name new (keeps inside (w.1 h.1))))

  pub substituted_item_stays : (current name pattern template : Bytes) → KeepsText pattern template → Stays grammar (substituted_item current name pattern template)
  substituted_item_stays current name pattern template keeps x = substituted_string current name pattern template keeps x (body_of x) refl

  -- ---- words and items that are not there

  -- an item that comes from another attribute
  travelled_stays : (current attribute : Bytes) (x : Expr) (found : Option Bytes) → body_of x ≡ found
      → InPlace grammar x (option_map_or (λ inside. if is_label_attribute attribute && not (bytes_eq (shortened current inside) inside) then with_text (quoted_of (shortened current inside)) x else x) found x)
  travelled_stays current attribute x None e = itself grammar x
  travelled_stays current attribute x (Some inside) e =
      let short : Bytes = shortened current inside in
      let w = body_there x inside e in
      by_test (InPlace grammar x) (is_label_attribute attribute && not (bytes_eq short inside)) (with_text (quoted_of short) x) x
      (string_in_place grammar (quoted_of short) x w.0 (λ h. quoted_string short (shortened_utf8 current inside (w.1 h.1)))) (itself grammar x)

  pub arriving_items : (current attribute : Bytes) (there xs : List Expr) → AreOf grammar s.test xs → AreOf grammar s.test (arriving current attribute there xs)
  arriving_items current attribute there [] h = tt
  arriving_items current attribute there (x ∷ xs) h =
      by_test (AreOf grammar s.test) (is_there current attribute there x) (arriving current attribute there xs) (travelled current attribute x ∷ arriving current attribute (x ∷ there) xs)
      (arriving_items current attribute there xs h.1)
      (item_within grammar s.test x (travelled current attribute x) (from_in_place grammar x (travelled current attribute x) (travelled_stays current attribute x (body_of x) refl)) h.0, arriving_items current attribute (x ∷ there) xs h.1)

  -- ---- what each command on values makes of the arguments of a rule is arguments

  -- ---- add

  added_keeps : (name : Bytes) (added : List Expr → List Expr) → IsAttribute name → ((there : List Expr) → AreOf grammar s.test (added there)) → Keeps grammar (with_items_added name added)
  added_keeps name added a f xs h =
      of_attribute grammar name xs (Ok (with_new name (list_of (added [])) xs))
      (grown name added xs)
      h
      (with_new_kept grammar name (list_of (added [])) xs a (list_value grammar (added []) (f [])) h)
      (λ value v.
      by_test (Made grammar) (has_lists Skipped value) (Ok (with_value name (with_more (added (items_in Skipped value)) value) xs))
      (if is_no_list value then Err NotAList else Ok (with_value name (plus value (list_of (added []))) xs))
      (with_value_kept grammar name (with_more (added (items_in Skipped value)) value) xs (more_value (added (items_in Skipped value)) value (f (items_in Skipped value)) v) h)
      (by_test (Made grammar) (is_no_list value) (Err NotAList) (Ok (with_value name (plus value (list_of (added []))) xs)) tt
      (with_value_kept grammar name (plus value (list_of (added []))) xs (plus_value grammar value (added []) v (f [])) h)))

  pub strings_are_items : (current name : Bytes) (words : List Bytes) (items : List Expr) → AreUtf8 words → AreOf grammar s.test (strings_added current name words items)
  strings_are_items current name words items u = words_are_items grammar current name (fresh current name items [] words) (fresh_utf8 current name items [] words u)

  pub with_strings_stays : (current name : Bytes) (words : List Bytes) → AreUtf8 words → Stays grammar (with_strings current name words)
  with_strings_stays current name words u x = more_in_place (strings_added current name words (items_in Skipped x)) x (strings_are_items current name words (items_in Skipped x) u)

  pub add_keeps : (current name : Bytes) (words : List Bytes) → IsAttribute name → AreUtf8 words → Keeps grammar (add current name words)
  add_keeps current name words a u = added_keeps name (strings_added current name words) a (λ items. strings_are_items current name words items u)

  -- ---- remove

  cleared_kept : (name : Bytes) (value : Expr) (xs : List Expr) → IsValue grammar value → AreArguments grammar xs → AreArguments grammar (cleared name value xs)
  cleared_kept name value xs v h = by_test (AreArguments grammar) (is_empty_list value) (without name xs) (with_value name value xs) (without_kept grammar name xs h) (with_value_kept grammar name value xs v h)

  without_items_kept : (selects : Selects) (name : Bytes) (test : Expr → Bool) (value : Expr) (xs : List Expr) → IsValue grammar value → AreArguments grammar xs → AreArguments grammar (without_items selects name test value xs)
  without_items_kept selects name test value xs v h =
      let less : Expr = on_lists selects (filter (λ x. not (test x))) value in
      by_test (AreArguments grammar) (list_any test (items_in selects value)) (cleared name less xs) xs (cleared_kept name less xs (fewer_value selects (λ x. not (test x)) value v) h) h

  pub remove_values_keeps : (selects : Selects) (current name : Bytes) (words : List Bytes) → Keeps grammar (remove_values selects current name words)
  remove_values_keeps selects current name words xs h =
      of_attribute grammar name xs (Ok xs) (λ value. if is_no_list value then Err NotAList else Ok (without_items selects name (is_some_item current name words) value xs)) h h
      (λ value v. by_test (Made grammar) (is_no_list value) (Err NotAList) (Ok (without_items selects name (is_some_item current name words) value xs)) tt
      (without_items_kept selects name (is_some_item current name words) value xs v h))

  values_left_kept : (selects : Selects) (current name : Bytes) (words : List Bytes) (xs : List Expr) → AreArguments grammar xs → AreArguments grammar (values_left selects current name words xs)
  values_left_kept selects current name words xs h = by (attribute name xs) (attribute_value grammar name xs h)
    where
      by : (found : Option Expr) → IfSome found (IsValue grammar)
          → AreArguments grammar (option_map_or (λ value. without_items selects name (is_some_item current name words) value xs) found xs)
      by None v = h
      by (Some value) v = without_items_kept selects name (is_some_item current name words) value xs v h

  argument_left_kept : (selects : Selects) (current : Bytes) (words : List Bytes) (x : Expr) → IsItem grammar s.argument x → AreArguments grammar (argument_left selects current words x)
  argument_left_kept selects current words x i =
      by_test (AreArguments grammar) (is_other_attribute x) (values_left selects current (first_text (parts_of x)) words (x ∷ [])) (x ∷ [])
      (values_left_kept selects current (first_text (parts_of x)) words (x ∷ []) (i, tt)) (i, tt)

  pub remove_everywhere_keeps : (selects : Selects) (current : Bytes) (words : List Bytes) → Keeps grammar (remove_everywhere selects current words)
  remove_everywhere_keeps selects current words [] h = tt
  remove_everywhere_keeps selects current words (x ∷ xs) h =
      all_joined (IsItem grammar s.argument) (argument_left selects current words x) (flat_map (argument_left selects current words) xs)
      (argument_left_kept selects current words x h.0) (remove_everywhere_keeps selects current words xs h.1)

  pub remove_if_equal_keeps : (current name word : Bytes) → Keeps grammar (remove_if_equal current name word)
  remove_if_equal_keeps current name word xs h =
      by_test (AreArguments grammar) (option_map_or (equals_word current name word) (attribute name xs) false) (without name xs) xs (without_kept grammar name xs h) h

  -- ---- replace and substitute

  in_attributes_keeps : (selects : Selects) (attributes : Attributes) (change : Bytes → Expr → Expr) → ((name : Bytes) → Stays grammar (change name)) → Keeps grammar (λ xs. Ok (in_attributes attributes (λ name. in_value selects (change name)) xs))
  in_attributes_keeps selects t.All change stays xs h =
      all_changed (IsItem grammar s.argument) (λ x. if is_other_attribute x then on_value (in_value selects (change (first_text (parts_of x)))) x else x)
      (λ x i. by_test (IsItem grammar s.argument) (is_other_attribute x) (on_value (in_value selects (change (first_text (parts_of x)))) x) x
      (value_stays grammar (in_value selects (change (first_text (parts_of x)))) (changed_value selects (change (first_text (parts_of x))) (stays (first_text (parts_of x)))) x i) i)
      xs h
  in_attributes_keeps selects (t.Named name) change stays xs h =
      first_that_kept (IsItem grammar s.argument) (is_attribute name) (on_value (in_value selects (change name))) (value_stays grammar (in_value selects (change name)) (changed_value selects (change name) (stays name))) xs h

  pub replace_keeps : (selects : Selects) (current : Bytes) (attributes : Attributes) (old new : Bytes) → IsUtf8 new → Keeps grammar (replace selects current attributes old new)
  replace_keeps selects current attributes old new u =
      in_attributes_keeps selects attributes (λ name. replaced_item current name old new) (λ name. replaced_item_stays current name old new u)

  pub substitute_keeps : (selects : Selects) (current : Bytes) (attributes : Attributes) (pattern template : Bytes) → KeepsText pattern template → Keeps grammar (substitute selects current attributes pattern template)
  substitute_keeps selects current attributes pattern template keeps =
      in_attributes_keeps selects attributes (λ name. substituted_item current name pattern template) (λ name. substituted_item_stays current name pattern template keeps)

  -- ---- move

  moved_keeps : (current from to : Bytes) (items : List Expr) → IsAttribute to → AreOf grammar s.test items → Keeps grammar (items_moved current from to items)
  moved_keeps current from to items a i = added_keeps to (λ there. arriving current to there items) a (λ there. arriving_items current to there items i)

  pub move_keeps : (current from to : Bytes) (values : Values) → IsAttribute to → Keeps grammar (move current from to values)
  move_keeps current from to values a xs h =
      let test : Expr → Bool = is_moved current from values in
      of_attribute grammar from xs (Err NoAttribute)
      (λ value.
      if not (has_lists Skipped value) then Err NotAList
      else (if list_any test (items_in Skipped value)
      then items_moved current from to (filter test (items_in Skipped value)) (without_items Skipped from test value xs)
      else Ok xs))
      h tt
      (λ value v.
      by_test (Made grammar) (not (has_lists Skipped value)) (Err NotAList)
      (if list_any test (items_in Skipped value) then items_moved current from to (filter test (items_in Skipped value)) (without_items Skipped from test value xs) else Ok xs)
      tt
      (by_test (Made grammar) (list_any test (items_in Skipped value)) (items_moved current from to (filter test (items_in Skipped value)) (without_items Skipped from test value xs)) (Ok xs)
      (moved_keeps current from to (filter test (items_in Skipped value)) a (all_kept (IsItem grammar s.test) test (items_in Skipped value) (value_items value v)) (without_items Skipped from test value xs)
      (without_items_kept Skipped from test value xs v h)) h))
