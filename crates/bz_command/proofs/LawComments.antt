-- Commands that take nothing away lose no comment.
use Rattle.bz_command.proofs.Words.{[], ◌+◌, ◌∷◌, ◌≡◌, ◌≤◌, add, AllByRecursion, argument_of, Arguments, arith, attribute, AttributeExists, AttributeOperation as wa, Attributes, Attributes as t, body_of, Bool, by_case, by_test, Bytes, bytes_eq, comment, CommentOperation as wc, CommentsStay, copy, copy_no_overwrite, dict_add, dict_add_grows, dict_list_add, dict_list_add_grows, dict_replace_if_equal, dict_replace_if_equal_grows, DictOperation as wd, Err, Expr, false, first_text, Form', Grammar, has_name, if_false, IfOk, if◌then◌else◌, in_attributes, in_value, insert, is_set, IsProperCommand, IsProperItemIn, Item, Item as i, items-the_row-Expr, keeps_comments, Kind as k, List, list_any, list_of, LoadOperation as wl, made, made_of, map, meant, moves_comments, NameTaken, new_rule_place, NewItem, NoAttribute, None, NoSource, not, NotAList, NoTarget, Ok, on_arguments, on_first, on_meant, on_row, on_rule, on_rules, on_statement, Operation, Operation as w, Option, option_map_or, parts_of, recursion_from_All, refl, Refusal, rename, replace, replace_load_same, replaced_item, Result, Rule as RuleRead, rule_made, rule_of, RuleOperation as wr, RulePlace, set, set_if_absent, setting, Some, source, strings_added, subst, substitute, substituted_item, sym, Token, true, true≢false, use_repo_add, ValueOperation as wv, with_arguments, with_body, with_comment, with_item_first, with_items, with_items_added, with_rule, with_text, ℕ}
use Rattle.bz_value.specs.Counted.{total, amount, item_amount, one_if}
use Rattle.bz_value.proofs.Totals.{form_amount}
use Rattle.bz_command_syntax.specs.Patterns.{substituted}
use Rattle.bz_command_syntax.specs.declared.command.Selects.{Selects}
use Rattle.bz_command_syntax.specs.declared.command.Selects.TheVariants.{Skipped}
use Rattle.bz_attribute.specs.Attributes.{is_attribute, has_attribute, is_other_attribute, on_first_that, on_value, with_value, with_new, put}
use Rattle.bz_command_syntax.specs.declared.command.Host.TheVariants.{Rule, Attribute, Item as ItemHost}
use Rattle.bz_load.proofs.LawComments.{amount_answered, new_load_same, put_total, substitute_load_same}
use Rattle.bz_load.proofs.LawUsages.{if_ok, use_repo_add_same}
use Rattle.bz_comment.proofs.LawBack.{own_grows, comment_grows}
use Rattle.bz_command.proofs.ProperEffects.{effect_by}
use Rattle.bz_command.proofs.StatementRules.{Holds, before_in, before_in_call, before_in_row, in_item}
use Rattle.bz_attribute.specs.Lists.{has_lists, items_in, is_no_list, with_more, is_item}
use Rattle.bz_attribute.specs.Made.{string_text, plus}
use Rattle.bz_attribute.proofs.AttributesAgain.{of_found}
use Rattle.bz_attribute.proofs.Grown.{itself, in_turn, both_at_most, Grows, map_grows, first_grows, first_that_grows}
use Rattle.bz_attribute.proofs.GrownArguments.{text_grows, on_row_grows, on_lists_grows, on_value_grows, more_grows, plus_grows, with_value_grows, inserted_grows, Grown}
use Rattle.bz_list.proofs.LawAdded.{grown}

module _ (number : Bytes → ℕ) where
  abbrev whole : Expr → ℕ
  whole = amount number

  -- ---- values

  item_replaced_grows : (current name : Bytes) (old new : Bytes) → Grows whole (replaced_item current name old new)
  item_replaced_grows current name old new x =
      by_test (λ (y : Expr). whole x ≤ whole y) (is_item current name old x) (with_text (string_text current name new) x) x (text_grows number (string_text current name new) x) (itself (whole x))

  text_substituted : (current name pattern template : Bytes) (x : Expr) (found : Option Bytes)
      → whole x ≤ whole (option_map_or (λ inside. with_body current name inside (substituted pattern template inside) x) found x)
  text_substituted current name pattern template x None = itself (whole x)
  text_substituted current name pattern template x (Some inside) =
      let new : Bytes = substituted pattern template inside in
      by_test (λ (y : Expr). whole x ≤ whole y) (bytes_eq new inside) x (with_text (string_text current name new) x) (itself (whole x)) (text_grows number (string_text current name new) x)

  item_substituted_grows : (current name pattern template : Bytes) → Grows whole (substituted_item current name pattern template)
  item_substituted_grows current name pattern template x = text_substituted current name pattern template x (body_of x)

  in_value_grows : (selects : Selects) (change : Expr → Expr) → Grows whole change → Grows whole (in_value selects change)
  in_value_grows selects change g x =
      in_turn (whole x) (whole (change x)) (whole (in_value selects change x)) (g x) (on_lists_grows number selects (map change) (map_grows whole change g) (change x))

  -- ---- commands on arguments

  abbrev Keeps : (List Expr → Arguments) → Type 0
  Keeps change = (xs : List Expr) → Grown number xs (change xs)

  set_if_absent_keeps : (current name : Bytes) (words : List Bytes) → Keeps (set_if_absent current name words)
  set_if_absent_keeps current name words xs =
      let new : Expr = setting current name words in
      by_case (Grown number xs) (has_attribute name xs) (Ok xs) (set current name words xs) (λ h. itself (total whole xs))
      (λ n. by_test (λ (ys : List Expr). total whole xs ≤ total whole ys) (option_map_or (is_set new) (attribute name xs) false) xs (put name new xs) (itself (total whole xs))
      (subst (λ (there : Bool). total whole xs ≤ total whole (if there then with_value name new xs else with_new name new xs)) (sym n) (inserted_grows number (argument_of name new) xs)))

  added_keeps : (name : Bytes) (added : List Expr → List Expr) → Keeps (with_items_added name added)
  added_keeps name added xs =
      of_found (Grown number xs) (attribute name xs) (Ok (with_new name (list_of (added [])) xs)) (grown name added xs) (inserted_grows number (argument_of name (list_of (added []))) xs)
      (λ value e. by_test (Grown number xs) (has_lists Skipped value) (Ok (with_value name (with_more (added (items_in Skipped value)) value) xs))
      (if is_no_list value then Err NotAList else Ok (with_value name (plus value (list_of (added []))) xs))
      (with_value_grows number name value (with_more (added (items_in Skipped value)) value) xs e (more_grows number (added (items_in Skipped value)) value))
      (by_test (Grown number xs) (is_no_list value) (Err NotAList) (Ok (with_value name (plus value (list_of (added []))) xs)) tt
      (with_value_grows number name value (plus value (list_of (added []))) xs e (plus_grows number (list_of (added [])) value))))

  in_attributes_keeps : (selects : Selects) (attributes : Attributes) (change : Bytes → Expr → Expr) → ((name : Bytes) → Grows whole (change name))
      → Keeps (λ xs. Ok (in_attributes attributes (λ name. in_value selects (change name)) xs))
  in_attributes_keeps selects t.All change g xs =
      map_grows whole (λ x. if is_other_attribute x then on_value (in_value selects (change (first_text (parts_of x)))) x else x)
      (λ x. by_test (λ (y : Expr). whole x ≤ whole y) (is_other_attribute x) (on_value (in_value selects (change (first_text (parts_of x)))) x) x
      (on_value_grows number (in_value selects (change (first_text (parts_of x)))) (in_value_grows selects (change (first_text (parts_of x))) (g (first_text (parts_of x)))) x) (itself (whole x)))
      xs
  in_attributes_keeps selects (t.Named name) change g xs =
      first_that_grows whole (is_attribute name) (on_value (in_value selects (change name))) (on_value_grows number (in_value selects (change name)) (in_value_grows selects (change name) (g name))) xs

  replace_keeps : (selects : Selects) (current : Bytes) (attributes : Attributes) (old new : Bytes) → Keeps (replace selects current attributes old new)
  replace_keeps selects current attributes old new = in_attributes_keeps selects attributes (λ name. replaced_item current name old new) (λ name. item_replaced_grows current name old new)

  substitute_keeps : (selects : Selects) (current : Bytes) (attributes : Attributes) (pattern template : Bytes) → Keeps (substitute selects current attributes pattern template)
  substitute_keeps selects current attributes pattern template =
      in_attributes_keeps selects attributes (λ name. substituted_item current name pattern template) (λ name. item_substituted_grows current name pattern template)

  rename_keeps : (from to : Bytes) → Keeps (rename from to)
  rename_keeps from to xs =
      let change : List Expr → List Expr = on_first (with_text to) in
      let new : List Expr = on_first_that (is_attribute from) (on_row k.Named change) xs in
      by_test (Grown number xs) (not (has_attribute from xs)) (Err NoAttribute) (if has_attribute to xs then Err AttributeExists else Ok new) tt
      (by_test (Grown number xs) (has_attribute to xs) (Err AttributeExists) (Ok new) tt
      (first_that_grows whole (is_attribute from) (on_row k.Named change) (on_row_grows number k.Named change (first_grows whole (with_text to) (text_grows number to))) xs))

  copy_keeps : (name : Bytes) (found : Option Expr) → Keeps (copy_no_overwrite name found)
  copy_keeps name found xs =
      by_case (Grown number xs) (has_attribute name xs) (Ok xs) (copy name found xs) (λ h. itself (total whole xs))
      (λ n. of_found (Grown number xs) found (Err NoSource) (λ value. Ok (put name value xs)) tt
      (λ value e. subst (λ ys. total whole xs ≤ total whole ys) (sym (if_false (has_attribute name xs) (with_value name value xs) (with_new name value xs) n)) (inserted_grows number (argument_of name value) xs)))

  -- ---- rules

  abbrev size : Item → ℕ
  size = item_amount number

  -- what a call, a row that begins with one and an item weigh with another list, by the one that it had
  call_exact : (list : List Expr) (y : Expr) → whole (with_items list y) + total whole (before_in_call list y) ≡ whole y + total whole list
  call_exact list (Token t) = refl
  call_exact list (Form' own s parts s' items end split open_break comments) =
      let before = amount_answered number (Form' own s parts s' items end split open_break comments) in
      let after = form_amount number (made own (items-the_row-Expr _ parts) list end split open_break comments) in
      omega (arith, before, after)

  row_exact : (list ps : List Expr) → total whole (on_first (with_items list) ps) + total whole (before_in_row list ps) ≡ total whole ps + total whole list
  row_exact list [] = refl
  row_exact list (y ∷ ps) = let call = call_exact list y in omega (arith, call)

  item_exact : (list : List Expr) (item : Item) → size (with_arguments list item) + total whole (before_in list item) ≡ size item + total whole list
  item_exact list (i.Block lines) = refl
  item_exact list (i.Stmt (Token t)) = refl
  item_exact list (i.Stmt (Form' k.Bare s parts s' items end split open_break comments)) =
      let row = row_exact list (items-the_row-Expr _ parts) in
      let before = amount_answered number (Form' k.Bare s parts s' items end split open_break comments) in
      let after = form_amount number (made k.Bare (on_first (with_items list) (items-the_row-Expr _ parts)) (items-the_row-Expr _ items) end split open_break comments) in
      omega (arith, row, before, after)
  item_exact list (i.Stmt (Form' _ s parts s' items end split open_break comments)) = refl

  -- and a rule, by its arguments
  rule_exact : (item : Item) (rule : RuleRead) (new : List Expr) → rule_of item ≡ Some rule → size (with_arguments new item) + total whole rule.arguments ≡ size item + total whole new
  rule_exact item rule new e =
      subst (λ (ys : List Expr). size (with_arguments new item) + total whole ys ≡ size item + total whole new)
      (subst (Holds (before_in new item)) e (in_item new item)) (item_exact new item)

  abbrev MadeItem : Item → NewItem → Type 0
  MadeItem item result = IfOk result (λ new. size item ≤ size new)

  made_keeps : (item : Item) (rule : RuleRead) → rule_of item ≡ Some rule → (result : Arguments) → Grown number rule.arguments result → MadeItem item (made_of item result)
  made_keeps item rule e (Err refusal) h = tt
  made_keeps item rule e (Ok new) h = let exact = rule_exact item rule new e in omega (arith, exact, h)

  found_keeps : (change : List Expr → Arguments) → Keeps change → (item : Item) (found : Option RuleRead) → rule_of item ≡ found → MadeItem item (on_rule change found item)
  found_keeps change g item None e = itself (size item)
  found_keeps change g item (Some rule) e = made_keeps item rule e (change rule.arguments) (g rule.arguments)

  arguments_keep : (change : List Expr → Arguments) → Keeps change → (item : Item) → MadeItem item (on_arguments change item)
  arguments_keep change g item = found_keeps change g item (rule_of item) refl

  -- ---- all items

  abbrev MadeItems : List Item → Result (List Item) Refusal → Type 0
  MadeItems items result = IfOk result (λ new. total size items ≤ total size new)

  after_keeps : (item : Item) (items : List Item) (one : NewItem) (rest : Result (List Item) Refusal) → MadeItem item one → MadeItems items rest → MadeItems (item ∷ items) (with_item_first one rest)
  after_keeps item items (Err refusal) rest h g = tt
  after_keeps item items (Ok new) (Err refusal) h g = tt
  after_keeps item items (Ok new) (Ok news) h g = both_at_most (size item) (size new) (total size items) (total size news) h g

  meant_keeps : (change : Item → NewItem) → ((item : Item) → MadeItem item (change item)) → (marks : List Bool) (items : List Item) → MadeItems items (on_meant change marks items)
  meant_keeps change g [] items = itself (total size items)
  meant_keeps change g (true ∷ marks) [] = itself 0
  meant_keeps change g (false ∷ marks) [] = itself 0
  meant_keeps change g (true ∷ marks) (item ∷ items) = after_keeps item items (change item) (on_meant change marks items) (g item) (meant_keeps change g marks items)
  meant_keeps change g (false ∷ marks) (item ∷ items) = after_keeps item items (Ok item) (on_meant change marks items) (itself (size item)) (meant_keeps change g marks items)

  new_keeps : (kind name : Bytes) (place : RulePlace) (items : List Item) → MadeItems items (with_rule kind name place items)
  new_keeps kind name place items = put (new_rule_place place items)
    where
      put : (at : Option ℕ) → MadeItems items (option_map_or (λ at. if list_any (has_name name) items then Err NameTaken else Ok (insert items at (rule_made kind name))) at (Err NoTarget))
      put None = tt
      put (Some at) =
          let more = put_total number at (rule_made kind name) items in
          by_test (MadeItems items) (list_any (has_name name) items) (Err NameTaken) (Ok (insert items at (rule_made kind name))) tt (omega (arith, more))

  by_arguments : (change : List Expr → Arguments) → Keeps change → (marks : List Bool) (items : List Item) → MadeItems items (on_meant (on_arguments change) marks items)
  by_arguments change g = meant_keeps (on_arguments change) (arguments_keep change g)

  statement_keeps : (text : Bytes) (item : Item) → MadeItem item (Ok (on_statement (with_comment text) item))
  statement_keeps text (i.Block lines) = itself (size (i.Block lines))
  statement_keeps text (i.Stmt x) = own_grows number text x

  rules_keep : (grammar : Grammar) (operation : Operation) (current : Bytes) (marks : List Bool) (items : List Item) → keeps_comments operation ≡ true
      → (moves_comments operation ≡ true → IsProperCommand operation × AllByRecursion (IsProperItemIn grammar) items) → MadeItems items (on_rules operation current marks items)
  rules_keep grammar (w.Rule (wr.New kind name place)) current marks items h p = new_keeps kind name place items
  rules_keep grammar (w.Attribute (wa.SetIfAbsent name words)) current marks items h p = by_arguments (set_if_absent current name words) (set_if_absent_keeps current name words) marks items
  rules_keep grammar (w.Attribute (wa.Rename from to)) current marks items h p = by_arguments (rename from to) (rename_keeps from to) marks items
  rules_keep grammar (w.Attribute (wa.CopyNoOverwrite name rule)) current marks items h p =
      by_arguments (copy_no_overwrite name (source name rule items)) (copy_keeps name (source name rule items)) marks items
  rules_keep grammar (w.Value (wv.Add name words)) current marks items h p = by_arguments (add current name words) (added_keeps name (strings_added current name words)) marks items
  rules_keep grammar (w.Value (wv.Replace attributes old new selects)) current marks items h p =
      by_arguments (replace selects current attributes old new) (replace_keeps selects current attributes old new) marks items
  rules_keep grammar (w.Value (wv.Substitute attributes pattern template selects)) current marks items h p =
      by_arguments (substitute selects current attributes pattern template) (substitute_keeps selects current attributes pattern template) marks items
  rules_keep grammar (w.Dict (wd.Add name entries)) current marks items h p = by_arguments (dict_add current name entries) (dict_add_grows number current name entries) marks items
  rules_keep grammar (w.Dict (wd.ReplaceIfEqual name key old new)) current marks items h p =
      by_arguments (dict_replace_if_equal current name key old new) (dict_replace_if_equal_grows number current name key old new) marks items
  rules_keep grammar (w.Dict (wd.ListAdd name key words)) current marks items h p = by_arguments (dict_list_add current name key words) (dict_list_add_grows number current name key words) marks items
  rules_keep grammar (w.Load (wl.New path symbols)) current marks items h p =
      subst (λ n. total size items ≤ n) (sym (new_load_same number path symbols items)) (itself (total size items))
  rules_keep grammar (w.Load (wl.Replace path symbols)) current marks items h p =
      subst (λ n. total size items ≤ n) (sym (replace_load_same number grammar path symbols items (p refl).0.0 (p refl).0.1 (p refl).1)) (itself (total size items))
  rules_keep grammar (w.Load (wl.Substitute pattern template)) current marks items h p =
      subst (λ n. total size items ≤ n) (sym (substitute_load_same number pattern template items)) (itself (total size items))
  rules_keep grammar (w.Load (wl.AddRepos usages repos)) current marks items h p =
      if_ok (λ new. total size new ≡ total size items) (λ new. total size items ≤ total size new) (λ new same. subst (λ n. total size items ≤ n) (sym same) (itself (total size items))) (use_repo_add current usages repos items)
      (use_repo_add_same number current usages repos items)
  rules_keep grammar (w.Comment (wc.Add Rule text)) current marks items h p = meant_keeps (λ item. Ok (on_statement (with_comment text) item)) (statement_keeps text) marks items
  rules_keep grammar (w.Comment (wc.Add (Attribute name) text)) current marks items h p = by_arguments (comment current (Attribute name) text) (comment_grows number current (Attribute name) text) marks items
  rules_keep grammar (w.Comment (wc.Add (ItemHost name word selects) text)) current marks items h p = by_arguments (comment current (ItemHost name word selects) text) (comment_grows number current (ItemHost name word selects) text) marks items
  rules_keep grammar (w.Comment (wc.Print host)) current marks items h p = by_arguments (λ arguments. Ok arguments) (λ xs. itself (total whole xs)) marks items
  rules_keep grammar (w.Print fields) current marks items h p = itself (total size items)
  rules_keep grammar _ current marks items h p = absurd (true≢false (sym h))

pub comments_stay : CommentsStay
comments_stay grammar operation target current lines items new h p e text =
    subst (MadeItems (one_if text) items) e
    (effect_by (MadeItems (one_if text) items) operation target current lines items (itself (total (item_amount (one_if text)) items)) (λ refusal. tt)
    (rules_keep (one_if text) grammar operation current (meant target.which lines items) items h (λ is. ((p is).0, recursion_from_All (IsProperItemIn grammar) items (p is).1))))
