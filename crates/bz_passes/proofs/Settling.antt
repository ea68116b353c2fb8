-- Labels, lists and arguments are changed in one walk. The passes settle: each leaves what it left as it is, and later ones keep that. So
-- tidying settles.
use Rattle.bz_passes.proofs.Words.{◌&&◌, ◌∙◌, ◌≡◌, above, after_passes, any_marked, ap, argument_order, argument_precedes, arguments_changed, arguments_in, attribute_changed, between, Bool, Bytes, bytes_eq, bytes_order, cases_Bool, Class as c, codes, Expr, false, first_text, flags, fun_ext, has_kind, if◌then◌else◌, inl, inr, is_empty, is_label_attribute, is_lt, is_run_load, is_some, is_sorted, is_text, Item, Item as i, item_tidied, item_with_flags, items_of, Kind as k, labelled, labels_changed, labels_in, leave_alone, List, list_changed, lists_and_arguments, lists_in, load_path, load_precedes, loads, local_name, map, name_precedes, name_ranks, None, not, of_rule, on_assigned, on_attribute, on_call, on_first, on_label_value, on_list_value, on_lists, on_rest, on_rule_arguments, on_statement, on_taken, on_third, Option, parts_of, passed, path_order, path_precedes, path_ranks, quotes_in, refl, settled_list, shorter_string, Some, sort_by, subst, sym, symbol_precedes, symbols_in, taken, text_of, true, true≢false, with_flags, with_parts}
use Rattle.bz_label.specs.Tables.{is_in, sorted_attributes}
use Rattle.bz_passes.proofs.Composed.{kind_outside, labels_stay, above_outside, five_composed, passes_stay}
use Rattle.bz_passes.proofs.Keeping.{maps_composed, Keeps, Settles, both, map_keeps, map_settles, third_settles, third_keeps_map, map_keeps_third, after_settles, after_keeps_map, map_keeps_after, test_settles, keeps_tested, tested_keeps}
use Rattle.bz_passes.proofs.Places.{at_other, kind_within, above_put, within_settles, within_quoted, flags_within, within_other, attribute_composed, differ, lists_composed, rule_composed, rule_settles, rule_quoted, rule_flags, attribute_settles, attribute_quoted, attribute_flags, first_flags, first_part_flags, lists_settle, lists_quoted, lists_flags}
use Rattle.bz_passes.proofs.Parts.{the_parts, the_items, kind_flags, class_flags, text_flags, comments_flags, above_flags, under_flags, under_quoted, items_flags}
use mathlib.Core.List.{map-map}
use Rattle.bz_passes.proofs.Ranks.{symbol_ranks}
use Rattle.bz_passes.proofs.Sorting.{compared_one_way, sort_settles, sort_keeps, sort_map, map_keeps_sort}
use Rattle.bz_passes.proofs.Listed.{list_settles, list_keeps, keeps_list}
use Rattle.bz_passes.proofs.Inner.{labelled_settles, flags_keep_labelled, under_labelled, labelled_keeps_quoted, quoted_settles, flags_keep_quoted, flags_settle}

abbrev shorter_labels : List Expr → List Expr
shorter_labels = map (on_attribute (on_label_value shorter_string))

abbrev sorted_lists : Bytes → List Expr → List Expr
sorted_lists kind = map (on_attribute (on_list_value settled_list kind))

abbrev pub assigned : Expr → List Expr → List Expr
assigned x = on_third (on_lists (settled_list (above x) false))

value_composed : (has_labels : Bool) (change : List Expr → List Expr) (x : Expr) → on_lists change (if has_labels then on_lists (map labelled) x else x) ≡ on_lists (λ xs. change (labels_changed has_labels xs)) x
value_composed true change x = lists_composed (map labelled) change x
value_composed false change x = refl

values_composed : (kind : Bytes) (xs : List Expr) → sorted_lists kind (shorter_labels xs) ≡ map (on_attribute (attribute_changed kind)) xs
unfolding list_changed attribute_changed
values_composed kind =
    maps_composed (on_attribute (on_label_value shorter_string)) (on_attribute (on_list_value settled_list kind)) (on_attribute (attribute_changed kind))
    (attribute_composed (on_label_value shorter_string) (on_list_value settled_list kind) (attribute_changed kind) (λ n a. value_composed (is_label_attribute n) (settled_list a (is_sorted kind n))))

pub one_walk : (x : Expr) → arguments_in (lists_in (labels_in x)) ≡ lists_and_arguments x
unfolding arguments_changed
one_walk x = elim (cases_Bool (has_kind k.Assign x)) [
  | inl t ↦
      let bare : has_kind k.Bare x ≡ false = differ k.Assign k.Bare refl x t in
      let still : has_kind k.Bare (on_assigned settled_list x) ≡ false = kind_within the_parts k.Assign k.Bare (assigned x) x ∙ bare in
      let unlabelled : labels_in x ≡ x = at_other the_parts k.Bare (on_first (on_call (λ kind. shorter_labels))) x bare in
      let listed : lists_in x ≡ on_assigned settled_list x = rw t refl in
      let whole : lists_and_arguments x ≡ on_assigned settled_list x = rw t refl in
      ap (λ y. arguments_in (lists_in y)) unlabelled
      ∙ (ap arguments_in listed ∙ (at_other the_parts k.Bare (on_first (on_call (λ kind. sort_by argument_precedes))) (on_assigned settled_list x) still ∙ sym whole))
  | inr f ↦
      let still : has_kind k.Assign (labels_in x) ≡ false = labels_stay (has_kind k.Assign) (kind_outside k.Assign) x ∙ f in
      let listed : lists_in (labels_in x) ≡ on_rule_arguments sorted_lists (labels_in x) = rw still refl in
      let whole : lists_and_arguments x ≡ on_rule_arguments arguments_changed x = rw f refl in
      ap arguments_in (listed ∙ rule_composed (λ kind. shorter_labels) sorted_lists (λ kind. map (on_attribute (attribute_changed kind))) values_composed x)
      ∙ (rule_composed (λ kind. map (on_attribute (attribute_changed kind))) (λ kind. sort_by argument_precedes) arguments_changed (λ kind xs. refl) x ∙ sym whole)
]

pub passes_taken : (x : Expr) → any_marked leave_alone (above x) ≡ false → taken after_passes x ≡ symbols_in (lists_and_arguments (quotes_in x))
passes_taken x n = rw n (ap symbols_in (one_walk (quotes_in x)))

-- the tables of attributes know genrule alone
pub of_same_kind : (found : Option Bytes) (kind : Bytes) (xs : List Expr) → is_some found ≡ true → bytes_eq kind (codes "genrule") ≡ is_text (codes "genrule") found → arguments_changed kind xs ≡ of_rule arguments_changed found xs
unfolding arguments_changed attribute_changed
of_same_kind None kind xs some same = absurd (true≢false (sym some))
of_same_kind (Some name) kind xs some same =
    ap (λ b. sort_by argument_precedes (map (on_attribute (λ n a. on_lists (list_changed (is_label_attribute n) a (is_in sorted_attributes n && not (b && bytes_eq n (codes "srcs")))))) xs)) same

-- ---- by a test that is the same for all

module _ {X : Type 0} where
  when_keeps : (b : Bool) (g p : X → X) → Keeps g p → Keeps g (λ x. if b then p x else x)
  when_keeps true g p h x e = h x e
  when_keeps false g p h x e = refl

  when_kept : (b : Bool) (g p : X → X) → Keeps g p → Keeps (λ x. if b then g x else x) p
  when_kept true g p h x e = h x e
  when_kept false g p h x e = e

  when_settles : (b : Bool) (p : X → X) → Settles p → Settles (λ x. if b then p x else x)
  when_settles true p h x = h x
  when_settles false p h x = refl

  -- ---- one change after another
  kept_by : (f g p : X → X) → Keeps f p → Keeps g p → Keeps (λ x. g (f x)) p
  kept_by f g p first other x e = other (f x) (first x e)

  composed_settles : (g s : X → X) → Settles g → Settles s → Keeps s g → Settles (λ x. s (g x))
  composed_settles g s first other keeps x = ap s (keeps (g x) (first x)) ∙ other (g x)

  composed_keeps : (g s c : X → X) → Settles g → Keeps s g → Keeps c g → Keeps c s → Keeps c (λ x. s (g x))
  composed_keeps g s c settles keeps first other x e =
      let still : g x ≡ x = ap g (sym e) ∙ (keeps (g x) (settles x) ∙ e) in
      ap s (first x still) ∙ other x (ap s (sym still) ∙ e)

unseen_list : (outside : List Bytes) (b : Bool) → Keeps (map with_flags) (settled_list outside b)
unseen_list = keeps_list with_flags text_flags (class_flags c.String) comments_flags under_flags

-- ---- the items of a list: labels, and then the order

module _ (b : Bool) (outside : List Bytes) (by_table : Bool) where
  labels_settle : Settles (labels_changed b)
  labels_settle = when_settles b (map labelled) (map_settles labelled labelled_settles)

  list_labels : Keeps (settled_list outside by_table) (labels_changed b)
  list_labels = when_keeps b (settled_list outside by_table) (map labelled) (list_keeps labelled under_labelled outside by_table)

  changed_settles : Settles (list_changed b outside by_table)
  unfolding list_changed
  changed_settles = composed_settles (labels_changed b) (settled_list outside by_table) labels_settle (list_settles outside by_table) list_labels

  quoted_changed : Keeps (list_changed b outside by_table) (map quotes_in)
  unfolding list_changed
  quoted_changed =
      kept_by (labels_changed b) (settled_list outside by_table) (map quotes_in)
      (when_kept b (map labelled) (map quotes_in) (map_keeps labelled quotes_in labelled_keeps_quoted)) (list_keeps quotes_in under_quoted outside by_table)

  changed_flags : Keeps (map with_flags) (list_changed b outside by_table)
  unfolding list_changed
  changed_flags =
      composed_keeps (labels_changed b) (settled_list outside by_table) (map with_flags) labels_settle list_labels
      (when_keeps b (map with_flags) (map labelled) (map_keeps with_flags labelled flags_keep_labelled)) (unseen_list outside by_table)

-- ---- the arguments of a rule: their values, and then their order

unseen_argument : (x y : Expr) → argument_precedes (with_flags x) (with_flags y) ≡ argument_precedes x y
unseen_argument x y = both (λ a b. a && b) (both (λ a b. a && b) (kind_flags k.Named x) (kind_flags k.Named y)) (both (λ a b. is_lt (argument_order a b)) (first_part_flags x) (first_part_flags y))

module _ (kind : Bytes) where
  abbrev valued : Expr → Expr
  valued = on_attribute (attribute_changed kind)

  values_settle : Settles (map valued)
  unfolding attribute_changed
  values_settle = map_settles valued (attribute_settles (attribute_changed kind) (λ n a. lists_settle (list_changed (is_label_attribute n) a (is_sorted kind n)) (changed_settles (is_label_attribute n) a (is_sorted kind n))))

  arguments_settle : Settles (arguments_changed kind)
  unfolding arguments_changed
  arguments_settle =
      composed_settles (map valued) (sort_by argument_precedes) values_settle
      (sort_settles argument_precedes (compared_one_way (has_kind k.Named) name_precedes name_ranks)) (sort_keeps argument_precedes valued)

  quoted_arguments : Keeps (arguments_changed kind) (map quotes_in)
  unfolding arguments_changed attribute_changed
  quoted_arguments =
      kept_by (map valued) (sort_by argument_precedes) (map quotes_in)
      (map_keeps valued quotes_in (attribute_quoted (attribute_changed kind) (λ n a. lists_quoted (list_changed (is_label_attribute n) a (is_sorted kind n)) (quoted_changed (is_label_attribute n) a (is_sorted kind n)))))
      (sort_keeps argument_precedes quotes_in)

  arguments_flags : Keeps (map with_flags) (arguments_changed kind)
  unfolding arguments_changed attribute_changed
  arguments_flags =
      composed_keeps (map valued) (sort_by argument_precedes) (map with_flags) values_settle (sort_keeps argument_precedes valued)
      (map_keeps with_flags valued (attribute_flags (attribute_changed kind) (λ n a. lists_flags (list_changed (is_label_attribute n) a (is_sorted kind n)) (changed_flags (is_label_attribute n) a (is_sorted kind n)))))
      (map_keeps_sort argument_precedes with_flags unseen_argument)

-- ---- assignments, and rules

same_assigned : (ys : List Expr) (x : Expr) → assigned (with_parts ys x) ≡ assigned x
same_assigned ys x = ap (λ a. on_third (on_lists (settled_list a false))) (above_put the_parts ys x)

abbrev of_rules : Expr → Expr
of_rules = on_rule_arguments arguments_changed

walk_settles : Settles lists_and_arguments
walk_settles =
    test_settles (has_kind k.Assign) (on_assigned settled_list) of_rules (λ x. kind_within the_parts k.Assign k.Assign (assigned x) x) (kind_within the_parts k.Bare k.Assign (on_first (on_call arguments_changed)))
    (within_settles the_parts k.Assign assigned (λ x t. same_assigned (assigned x (parts_of x)) x) (λ x. third_settles _ (lists_settle (settled_list (above x) false) (list_settles (above x) false))))
    (rule_settles arguments_changed arguments_settle)

quoted_walk : Keeps lists_and_arguments quotes_in
quoted_walk =
    tested_keeps (has_kind k.Assign) (on_assigned settled_list) of_rules quotes_in
    (within_quoted the_parts k.Assign assigned (λ x. third_keeps_map _ quotes_in (lists_quoted (settled_list (above x) false) (list_keeps quotes_in under_quoted (above x) false))))
    (rule_quoted arguments_changed quoted_arguments)

walk_flags : Keeps with_flags lists_and_arguments
walk_flags =
    keeps_tested (has_kind k.Assign) with_flags (on_assigned settled_list) of_rules (kind_flags k.Assign)
    (flags_within the_parts k.Assign assigned (λ x. ap (λ a. on_third (on_lists (settled_list a false))) (above_flags x)) (λ x. map_keeps_third with_flags _ (lists_flags (settled_list (above x) false) (unseen_list (above x) false))))
    (rule_flags arguments_changed arguments_flags)

-- ---- symbols

abbrev loaded : List Expr → List Expr
loaded = on_rest (sort_by symbol_precedes)

symbols_settle : Settles symbols_in
symbols_settle = within_settles the_items k.Load (λ x. loaded) (λ x t. refl) (λ x. after_settles (sort_by symbol_precedes) (sort_settles symbol_precedes symbol_ranks.one_way))

quoted_symbols : Keeps symbols_in quotes_in
quoted_symbols = within_quoted the_items k.Load (λ x. loaded) (λ x. after_keeps_map (sort_by symbol_precedes) quotes_in (sort_keeps symbol_precedes quotes_in))

same_local : (x : Expr) → local_name (with_flags x) ≡ local_name x
same_local x =
    ap (λ b. if b then first_text (parts_of (with_flags x)) else between (text_of (with_flags x))) (kind_flags k.Alias x)
    ∙ both (λ s t. if has_kind k.Alias x then s else between t) (first_part_flags x) (text_flags x)

symbols_flags : Keeps with_flags symbols_in
symbols_flags = flags_within the_items k.Load (λ x. loaded) (λ x. refl) (λ x. map_keeps_after with_flags (sort_by symbol_precedes) (map_keeps_sort symbol_precedes with_flags (λ y z. both (λ a b. is_lt (bytes_order a b)) (same_local y) (same_local z))))

walk_symbols : Keeps symbols_in lists_and_arguments
walk_symbols =
    keeps_tested (has_kind k.Assign) symbols_in (on_assigned settled_list) of_rules (kind_within the_items k.Load k.Assign loaded)
    (within_other the_items the_parts k.Load k.Assign (differ k.Load k.Assign refl) (λ x. loaded) assigned)
    (within_other the_items the_parts k.Load k.Bare (differ k.Load k.Bare refl) (λ x. loaded) (λ x. on_first (on_call arguments_changed)))

-- ---- statements

walked_settles : Settles (λ x. lists_and_arguments (quotes_in x))
walked_settles = composed_settles quotes_in lists_and_arguments quoted_settles walk_settles quoted_walk

symbols_walked : Keeps symbols_in (λ x. lists_and_arguments (quotes_in x))
symbols_walked = composed_keeps quotes_in lists_and_arguments symbols_in quoted_settles quoted_walk quoted_symbols walk_symbols

passes_are : (λ x. symbols_in (lists_and_arguments (quotes_in x))) ≡ after_passes
passes_are = fun_ext (λ x. ap symbols_in (sym (one_walk (quotes_in x))))

passes_settle : Settles after_passes
passes_settle = subst (λ p. Settles p) passes_are (composed_settles (λ x. lists_and_arguments (quotes_in x)) symbols_in walked_settles symbols_settle symbols_walked)

passes_flags : Keeps with_flags after_passes
passes_flags =
    subst (λ p. Keeps with_flags p) passes_are
    (composed_keeps (λ x. lists_and_arguments (quotes_in x)) symbols_in with_flags walked_settles symbols_walked
    (composed_keeps quotes_in lists_and_arguments with_flags quoted_settles quoted_walk flags_keep_quoted walk_flags) symbols_flags)

-- whether it is passed over
abbrev is_alone : Expr → Bool
is_alone x = any_marked leave_alone (above x)

pub item_settles : Settles item_tidied
item_settles (i.Block lines) = refl
item_settles (i.Stmt x) = ap i.Stmt (composed_settles (taken after_passes) with_flags
    (test_settles is_alone (λ y. y) after_passes (λ y. refl) (λ y. ap (any_marked leave_alone) (passes_stay above above_outside y)) (λ y. refl) passes_settle)
    flags_settle
    (keeps_tested is_alone with_flags (λ y. y) after_passes (λ y. ap (any_marked leave_alone) (above_flags y)) (λ y e. refl) passes_flags) x)

-- ---- loads

pub load_one_way : (x y : Item) → load_precedes x y ≡ true → load_precedes y x ≡ false
load_one_way = compared_one_way is_run_load path_precedes path_ranks

pub same_loose : (x : Expr) → is_run_load (i.Stmt (with_flags x)) ≡ is_run_load (i.Stmt x)
same_loose x = both (λ a b. a && b) (kind_flags k.Load x) (ap is_empty (above_flags x))

same_path : (x : Expr) → load_path (i.Stmt (with_flags x)) ≡ load_path (i.Stmt x)
same_path x = ap between (ap first_text (items_flags x) ∙ first_flags (items_of x))

same_run : (x : Item) → is_run_load (item_with_flags x) ≡ is_run_load x
same_run (i.Block lines) = refl
same_run (i.Stmt x) = same_loose x

same_load : (x : Item) → load_path (item_with_flags x) ≡ load_path x
same_load (i.Block lines) = refl
same_load (i.Stmt x) = same_path x

pub unseen_load : (x y : Item) → load_precedes (item_with_flags x) (item_with_flags y) ≡ load_precedes x y
unseen_load x y = both (λ a b. a && b) (both (λ a b. a && b) (same_run x) (same_run y)) (both (λ a b. is_lt (path_order a b)) (same_load x) (same_load y))

-- ---- tidying by items

-- each item by itself
abbrev pub each : List Item → List Item
each items = map item_tidied items

pub by_items : (items : List Item) → passed items ≡ loads (each items)
by_items items =
    ap (λ z. flags (loads z)) (five_composed items)
    ∙ (sym (sort_map load_precedes item_with_flags unseen_load (on_taken after_passes items)) ∙ ap loads (map-map item_with_flags (on_statement (taken after_passes)) items))

pub each_settled : (items : List Item) → each (loads (each items)) ≡ loads (each items)
each_settled items = sort_keeps load_precedes item_tidied (each items) (map_settles item_tidied item_settles items)

pub passed_stays : (items : List Item) → passed (passed items) ≡ passed items
passed_stays items =
    by_items (passed items)
    ∙ (ap (λ z. loads (each z)) (by_items items) ∙ (ap loads (each_settled items) ∙ (sort_settles load_precedes load_one_way (each items) ∙ sym (by_items items))))
