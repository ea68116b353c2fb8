-- What each command makes of a proper file value is proper.
use Rattle.bz_command.proofs.Words.{[], ◌∷◌, ◌≡◌, add, All-from_recursion, AllByRecursion, Arguments, attribute, AttributeOperation as wa, Attributes as attributes_of, Bool, by_case, by_test, Bytes, comment, CommentOperation as wc, copy, copy_no_overwrite, dict_add, dict_add_keeps, dict_list_add, dict_list_add_keeps, dict_remove, dict_remove_keeps, dict_replace_if_equal, dict_replace_if_equal_keeps, dict_set, dict_set_keeps, DictOperation as wd, effect, EffectsStayProper, Err, Expr, false, function_of, Grammar, has_name, IfOk, IfSome, if◌then◌else◌, insert, is_rule, is_some, IsProperCommand, IsProperItemIn, Item, Item as i, kept, lacks_rules, List, list_any, LoadOperation as wl, made_of, may_mean_none, meant, move, NameTaken, new_rule_place, NewItem, None, NoTarget, Ok, on_arguments, on_each, on_meant, on_one, on_rule, on_rules, on_statement as statement_with, Operation, Operation as w, Option, option_map_or, printed_rules, prints, recursion_from_All, Refusal, remove, remove_comment, remove_everywhere, remove_if_equal, remove_values, rename, replace, replace_load_keeps, Result, Rule, rule_arguments, rule_made, rule_of, RuleOperation as wr, RulePlace, set, set_if_absent, set_select, set_select_keeps, Some, source, source_of, subst, substitute, sym, Target, true, true≢false, unmarked, ValueOperation as wv, with_arguments, with_comment, with_function, with_item_first, with_items, with_parts, with_rule, without_comments, ℕ}
use Rattle.bz_command_syntax.specs.Proper.{IsKind}
use Rattle.bz_rule.proofs.{ProperArguments.attribute_value, ProperItems.IsValue, ProperRules.RuleItem, ProperRules.rule_item, ProperRules.on_statement}
use Rattle.bz_command_syntax.specs.declared.command.Host.TheVariants as r
use Rattle.bz_load.proofs.{ProperLoads.new_load_keeps, ProperLoads.fix_keeps, ProperLoads.substitute_load_keeps, ProperUsages.use_repo_add_keeps, ProperUsages.use_repo_remove_keeps, PlaceSteps.all_put}
use Rattle.bz_comment.proofs.ProperComments.{comment_keeps, remove_comment_keeps, statement_keeps, remove_statement_keeps}
use Rattle.bz_attribute.proofs.{ProperAttributes.Made, ProperAttributes.Keeps, ProperMade.made_rule, ProperMade.kind_function}
use Rattle.bz_command_syntax.proofs.PlainTexts.{substituted_utf8}
use Rattle.bz_change.proofs.ProperCommands.{set_keeps, set_if_absent_keeps, remove_keeps, rename_keeps, copy_keeps, copy_no_overwrite_keeps}
use Rattle.bz_list.proofs.ProperCommands.{add_keeps, remove_everywhere_keeps, remove_if_equal_keeps, remove_values_keeps, replace_keeps, substitute_keeps, move_keeps}

there_is : (P : Rule → Type 0) (C : Type 0) → ((rule : Rule) → P rule → C) → (o : Option Rule) → is_some o ≡ true → IfSome o P → C
there_is P C f None is h = absurd (true≢false (sym is))
there_is P C f (Some rule) is h = f rule h

module _ (grammar : Grammar) where
  abbrev pub AreItems : List Item → Type 0
  AreItems items = AllByRecursion (IsProperItemIn grammar) items

  abbrev pub MadeItem : NewItem → Type 0
  MadeItem result = IfOk result (IsProperItemIn grammar)

  abbrev MadeItems : Result (List Item) Refusal → Type 0
  MadeItems result = IfOk result AreItems

  -- ---- one item

  other_arguments : (new : List Expr) (item : Item) → IsProperItemIn grammar (on_statement with_items new item) → IsProperItemIn grammar (with_arguments new item)
  other_arguments new (i.Block lines) h = h
  other_arguments new (i.Stmt x) h = h

  other_function : (function : Expr) (item : Item) → IsProperItemIn grammar (on_statement with_parts (function ∷ []) item) → IsProperItemIn grammar (with_function function item)
  other_function function (i.Block lines) h = h
  other_function function (i.Stmt x) h = h

  item_made : (item : Item) (rule : Rule) (result : Arguments) → RuleItem grammar item rule → Made grammar result → MadeItem (made_of item result)
  item_made item rule (Err refusal) r h = tt
  item_made item rule (Ok new) r h = other_arguments new item (r.others new h)

  rule_changed : (change : List Expr → Arguments) (o : Option Rule) (item : Item) → Keeps grammar change → IfSome o (RuleItem grammar item) → IsProperItemIn grammar item → MadeItem (on_rule change o item)
  rule_changed change None item f r h = h
  rule_changed change (Some rule) item f r h = item_made item rule (change rule.arguments) r (f rule.arguments r.arguments)

  arguments_changed : (change : List Expr → Arguments) → Keeps grammar change → (item : Item) → IsProperItemIn grammar item → MadeItem (on_arguments change item)
  arguments_changed change f item h = rule_changed change (rule_of item) item f (rule_item grammar item h) h

  function_changed : (kind : Bytes) → IsKind kind → (item : Item) → is_rule item ≡ true → IsProperItemIn grammar item → IsProperItemIn grammar (with_function (function_of kind) item)
  function_changed kind a item is h =
      there_is (RuleItem grammar item) (IsProperItemIn grammar (with_function (function_of kind) item))
      (λ rule r. other_function (function_of kind) item (r.function (function_of kind) (kind_function grammar kind a))) (rule_of item) is (rule_item grammar item h)

  kind_set : (kind : Bytes) → IsKind kind → (item : Item) → IsProperItemIn grammar item → IsProperItemIn grammar (if is_rule item then with_function (function_of kind) item else item)
  kind_set kind a item h = by_case (IsProperItemIn grammar) (is_rule item) (with_function (function_of kind) item) item (λ is. function_changed kind a item is h) (λ n. h)

  statement_changed : (change : Expr → Expr) → ((x : Expr) → IsProperItemIn grammar (i.Stmt x) → IsProperItemIn grammar (i.Stmt (change x))) → (item : Item) → IsProperItemIn grammar item → IsProperItemIn grammar (statement_with change item)
  statement_changed change f (i.Block lines) h = h
  statement_changed change f (i.Stmt x) h = f x h

  -- ---- the items of the file

  -- a change that keeps items proper
  abbrev pub KeepsItems : (Item → NewItem) → Type 0
  KeepsItems change = (item : Item) → IsProperItemIn grammar item → MadeItem (change item)

  both_made : (first : NewItem) (rest : Result (List Item) Refusal) → MadeItem first → MadeItems rest → MadeItems (with_item_first first rest)
  both_made (Err refusal) rest h k = tt
  both_made (Ok item) (Err refusal) h k = tt
  both_made (Ok item) (Ok items) h k = (h, k)

  meant_changed : (change : Item → NewItem) → KeepsItems change → (marks : List Bool) (items : List Item) → AreItems items → MadeItems (on_meant change marks items)
  meant_changed change f [] items h = h
  meant_changed change f (true ∷ marks) [] h = tt
  meant_changed change f (false ∷ marks) [] h = tt
  meant_changed change f (true ∷ marks) (item ∷ items) h = both_made (change item) (on_meant change marks items) (f item h.0) (meant_changed change f marks items h.1)
  meant_changed change f (false ∷ marks) (item ∷ items) h = both_made (Ok item) (on_meant change marks items) h.0 (meant_changed change f marks items h.1)

  unmarked_items : (marks : List Bool) (items : List Item) → AreItems items → AreItems (unmarked marks items)
  unmarked_items [] items h = tt
  unmarked_items (true ∷ marks) [] h = tt
  unmarked_items (false ∷ marks) [] h = tt
  unmarked_items (true ∷ marks) (item ∷ items) h = unmarked_items marks items h.1
  unmarked_items (false ∷ marks) (item ∷ items) h = (h.0, unmarked_items marks items h.1)

  with_rule_made : (kind name : Bytes) (place : RulePlace) (items : List Item) → IsProperItemIn grammar (rule_made kind name) → AreItems items → MadeItems (with_rule kind name place items)
  with_rule_made kind name place items n h = put (new_rule_place place items)
    where
      put : (at : Option ℕ) → MadeItems (option_map_or (λ at. if list_any (has_name name) items then Err NameTaken else Ok (insert items at (rule_made kind name))) at (Err NoTarget))
      put None = tt
      put (Some at) = by_test MadeItems (list_any (has_name name) items) (Err NameTaken) (Ok (insert items at (rule_made kind name))) tt (all_put (IsProperItemIn grammar) at (rule_made kind name) items n h)

  -- ---- the value that is copied

  rule_value : (name : Bytes) (item : Item) (o : Option Rule) → IfSome o (RuleItem grammar item) → IfSome (attribute name (option_map_or (λ (rule : Rule). rule.arguments) o [])) (IsValue grammar)
  rule_value name item None h = tt
  rule_value name item (Some rule) r = attribute_value grammar name rule.arguments r.arguments

  pub source_value : (name rule : Bytes) (items : List Item) → AllByRecursion (IsProperItemIn grammar) items → IfSome (source name rule items) (IsValue grammar)
  source_value name rule [] h = tt
  source_value name rule (item ∷ items) h =
      by_test (λ (o : Option Expr). IfSome o (IsValue grammar)) (has_name rule item) (attribute name (rule_arguments item)) (source name rule items)
      (rule_value name item (rule_of item) (rule_item grammar item h.0)) (source_value name rule items h.1)

  -- ---- all commands

  module _ (current : Bytes) (items : List Item) (h : AreItems items) where
    unchanged : KeepsItems (on_arguments (λ arguments. Ok arguments))
    unchanged = arguments_changed (λ arguments. Ok arguments) (λ xs p. p)

    -- what a command makes of a rule that it is meant for
    pub each_keeps : (operation : Operation) → IsProperCommand operation → KeepsItems (on_one operation current (source_of operation items))
    each_keeps (w.Rule (wr.New kind name place)) p = unchanged
    each_keeps (w.Rule wr.Delete) p = unchanged
    each_keeps (w.Rule (wr.SetKind kind)) p = kind_set kind p
    each_keeps (w.Attribute (wa.Set name words)) p = arguments_changed (set current name words) (set_keeps grammar current name words p.0 p.1.1)
    each_keeps (w.Attribute (wa.SetIfAbsent name words)) p = arguments_changed (set_if_absent current name words) (set_if_absent_keeps grammar current name words p.0 p.1.1)
    each_keeps (w.Attribute (wa.Remove attributes)) p = arguments_changed (remove attributes) (remove_keeps grammar attributes)
    each_keeps (w.Attribute (wa.Rename from to)) p = arguments_changed (rename from to) (rename_keeps grammar from to p.1)
    each_keeps (w.Attribute (wa.Copy name rule)) p = arguments_changed (copy name (source name rule items)) (copy_keeps grammar name (source name rule items) p.0 (source_value name rule items h))
    each_keeps (w.Attribute (wa.CopyNoOverwrite name rule)) p =
        arguments_changed (copy_no_overwrite name (source name rule items)) (copy_no_overwrite_keeps grammar name (source name rule items) p.0 (source_value name rule items h))
    each_keeps (w.Value (wv.Add name words)) p = arguments_changed (add current name words) (add_keeps grammar current name words p.0 p.1.1)
    each_keeps (w.Value (wv.Remove attributes_of.All words selects)) p = arguments_changed (remove_everywhere selects current words) (remove_everywhere_keeps grammar selects current words)
    each_keeps (w.Value (wv.Remove (attributes_of.Named name) words selects)) p = arguments_changed (remove_values selects current name words) (remove_values_keeps grammar selects current name words)
    each_keeps (w.Value (wv.Replace attributes old new selects)) p = arguments_changed (replace selects current attributes old new) (replace_keeps grammar selects current attributes old new p.2)
    each_keeps (w.Value (wv.Substitute attributes pattern template selects)) p =
        arguments_changed (substitute selects current attributes pattern template) (substitute_keeps grammar selects current attributes pattern template (substituted_utf8 pattern template))
    each_keeps (w.Value (wv.Move from to values)) p = arguments_changed (move current from to values) (move_keeps grammar current from to values p.1)
    each_keeps (w.Value (wv.RemoveIfEqual name word)) p = arguments_changed (remove_if_equal current name word) (remove_if_equal_keeps grammar current name word)
    each_keeps (w.Dict (wd.Add name entries)) p = arguments_changed (dict_add current name entries) (dict_add_keeps grammar current name entries p.0 p.1)
    each_keeps (w.Dict (wd.Set name entries)) p = arguments_changed (dict_set current name entries) (dict_set_keeps grammar current name entries p.0 p.1)
    each_keeps (w.Dict (wd.Remove name keys)) p = arguments_changed (dict_remove name keys) (dict_remove_keeps grammar name keys)
    each_keeps (w.Dict (wd.ReplaceIfEqual name key old new)) p =
        arguments_changed (dict_replace_if_equal current name key old new) (dict_replace_if_equal_keeps grammar current name key old new p.0 p.3)
    each_keeps (w.Dict (wd.ListAdd name key words)) p = arguments_changed (dict_list_add current name key words) (dict_list_add_keeps grammar current name key words p.0 p.1 p.2.1)
    each_keeps (w.Dict (wd.Select name entries)) p = arguments_changed (set_select current name entries) (set_select_keeps grammar current name entries p.0 p.1)
    each_keeps (w.Load operation) p = unchanged
    each_keeps (w.Comment (wc.Add r.Rule text)) p = statement_changed (with_comment text) (statement_keeps grammar text p.1 p.2)
    each_keeps (w.Comment (wc.Add (r.Attribute name) text)) p = arguments_changed (comment current (r.Attribute name) text) (comment_keeps grammar current (r.Attribute name) text p.0 p.1 p.2)
    each_keeps (w.Comment (wc.Add (r.Item name word selects) text)) p = arguments_changed (comment current (r.Item name word selects) text) (comment_keeps grammar current (r.Item name word selects) text p.0 p.1 p.2)
    each_keeps (w.Comment (wc.Print host)) p = unchanged
    each_keeps (w.Comment (wc.Remove r.Rule)) p = statement_changed without_comments (remove_statement_keeps grammar)
    each_keeps (w.Comment (wc.Remove (r.Attribute name))) p = arguments_changed (remove_comment current (r.Attribute name)) (remove_comment_keeps grammar current (r.Attribute name) p)
    each_keeps (w.Comment (wc.Remove (r.Item name word selects))) p = arguments_changed (remove_comment current (r.Item name word selects)) (remove_comment_keeps grammar current (r.Item name word selects) p)
    each_keeps (w.Print fields) p = unchanged

    module _ (marks : List Bool) where
      by_each : (operation : Operation) → IsProperCommand operation → MadeItems (on_each operation current marks items)
      by_each operation p = meant_changed (on_one operation current (source_of operation items)) (each_keeps operation p) marks items h

      rules_made : (operation : Operation) → IsProperCommand operation → MadeItems (on_rules operation current marks items)
      rules_made (w.Rule (wr.New kind name place)) p = with_rule_made kind name place items (made_rule grammar kind name p.0 p.1) h
      rules_made (w.Rule wr.Delete) p = unmarked_items marks items h
      rules_made (w.Rule (wr.SetKind kind)) p = by_each (w.Rule (wr.SetKind kind)) p
      rules_made (w.Attribute operation) p = by_each (w.Attribute operation) p
      rules_made (w.Value operation) p = by_each (w.Value operation) p
      rules_made (w.Dict operation) p = by_each (w.Dict operation) p
      rules_made (w.Load (wl.New path symbols)) p = new_load_keeps grammar path symbols items p.0 p.1 h
      rules_made (w.Load (wl.Fix fixes)) p = fix_keeps grammar fixes items h
      rules_made (w.Load (wl.Replace path symbols)) p = replace_load_keeps grammar path symbols items p.0 p.1 h
      rules_made (w.Load (wl.Substitute pattern template)) p = substitute_load_keeps grammar pattern template items h
      rules_made (w.Load (wl.AddRepos usages repos)) p = use_repo_add_keeps grammar current usages repos items p.1 h
      rules_made (w.Load (wl.RemoveRepos usages repos)) p = use_repo_remove_keeps grammar current usages repos items h
      rules_made (w.Comment operation) p = by_each (w.Comment operation) p
      rules_made (w.Print fields) p = h

-- What holds where the items stay, where a command is refused, and of what it makes of the rules that are meant, holds of its effect.
pub effect_by : (P : Result (List Item) Refusal → Type 0) (operation : Operation) (target : Target) (current : Bytes) (lines : List ℕ) (items : List Item)
    → P (Ok items) → ((refusal : Refusal) → P (Err refusal)) → P (on_rules operation current (meant target.which lines items) items) → P (effect operation target current lines items)
effect_by P operation target current lines items stays refused made =
    let marks : List Bool = meant target.which lines items in
    let texts : Result Bytes Refusal = printed_rules operation current lines marks items in
    by_test P (lacks_rules operation marks) (if may_mean_none target.which then Ok items else Err NoTarget) (if prints operation then kept items texts else on_rules operation current marks items)
    (by_test P (may_mean_none target.which) (Ok items) (Err NoTarget) stays (refused NoTarget))
    (by_test P (prints operation) (kept items texts) (on_rules operation current marks items) (by_text texts) made)
  where
    by_text : (text : Result Bytes Refusal) → P (kept items text)
    by_text (Err refusal) = refused refusal
    by_text (Ok text) = stays

pub effects_stay_proper : EffectsStayProper
effects_stay_proper grammar operation target current lines items new p h e =
    let proper : AreItems grammar items = recursion_from_All (IsProperItemIn grammar) items h in
    All-from_recursion (IsProperItemIn grammar) new
    (subst (MadeItems grammar) e (effect_by (MadeItems grammar) operation target current lines items proper (λ refusal. tt) (rules_made grammar current items proper (meant target.which lines items) operation p)))
