-- The seven passes, five over a statement and two over the items of a file value, and `tidied`: all of them in turn, or the last one alone.
use Rattle.std.specs.Prelude.{ℕ, Bool, false, not, ◌&&◌, ◌||◌, List, [], ◌∷◌, ◌++◌, Option, Some, None, codes, if◌then◌else◌, map, nat_eq, replicate, take}
use Rattle.std.specs.List.{list_any}
use Rattle.std.specs.Option.{option_map_or}
use Rattle.std.specs.Ordering.{is_lt, nat_cmp, ordering_then}
use Rattle.std.specs.declared.cmp.Ordering.{Ordering}
use Rattle.bz_token.specs.declared.class.Class.TheVariants as c
use Rattle.bz_grammar.specs.declared.kind.Kind.TheVariants as k
use Rattle.bz_passes.specs.Words.{is_class, is_sorted, is_label_attribute, priority_of, group_of, bytes_order, unrepeated, Expr, Token, Form', Row_of-Expr, end_of-Expr, more_of-Expr, Item, Bytes, apostrophe, backslash, quotation_mark, body, dotted_name, is_empty, flags, has_kind, has_class, text_of, parts_of, items_of, with_text, above, on_row, on_items, on_first, on_third, on_rest, first_text, on_lists, between, inside, local_name, marks_of}
use Rattle.bz_value.specs.declared.value.Expr.TheVariants as e
use Rattle.bz_value.specs.declared.value.Item.TheVariants as i
use Rattle.bz_passes.specs.Sorting.{sort_by}
use Rattle.bz_passes.specs.Lists.{any_marked, settled_list}
use Rattle.bz_passes.specs.Newer.{has_newer}

-- ---- where the passes go

abbrev pub on_statement : (Expr → Expr) → Item → Item
on_statement change (i.Block lines) = i.Block lines
on_statement change (i.Stmt x) = i.Stmt (change x)

abbrev pub leave_alone : Bytes
leave_alone = codes "buildifier: leave-alone"

-- A statement marked `buildifier: leave-alone` in a comment above is passed over.
abbrev pub taken : (Expr → Expr) → Expr → Expr
taken change x = if any_marked leave_alone (above x) then x else change x

abbrev pub on_taken : (Expr → Expr) → List Item → List Item
on_taken change items = map (on_statement (taken change)) items

-- A rule is a statement that calls a name, or names joined by dots: that is its kind. Its arguments are changed, knowing
-- the kind.
abbrev pub rule_kind : List Expr → Option Bytes
rule_kind (x ∷ []) = dotted_name x
rule_kind _ = None

abbrev pub of_rule : (Bytes → List Expr → List Expr) → Option Bytes → List Expr → List Expr
of_rule change None xs = xs
of_rule change (Some kind) xs = change kind xs

abbrev pub on_call : (Bytes → List Expr → List Expr) → Expr → Expr
on_call change x = on_items k.Call (of_rule change (rule_kind (parts_of x))) x

abbrev pub on_rule_arguments : (Bytes → List Expr → List Expr) → Expr → Expr
on_rule_arguments change = on_row k.Bare (on_first (on_call change))

-- the value of a named argument is changed, knowing its name and the comments above it
abbrev pub on_attribute : (Bytes → List Bytes → Expr → Expr) → Expr → Expr
on_attribute change x = on_row k.Named (on_third (change (first_text (parts_of x)) (above x))) x

-- the texts of the strings of an expression are changed
abbrev mutual
  pub on_strings : (Bytes → Bytes) → Expr → Expr
  on_strings change (Token t) = e.Token (record t { text = if is_class t.class c.String then change t.text else t.text })
  on_strings change (Form' kind s parts s' items end split open_break comments) =
      e.Form (record { kind = kind; parts = each_on_strings change parts; seq = record { items = each_on_strings change items; end = end; split = split }; open_break = open_break; comments = comments })

  pub each_on_strings : {n : _} → (Bytes → Bytes) → Row_of-Expr n → List Expr
  each_on_strings change end_of-Expr = []
  each_on_strings change (more_of-Expr x rest) = on_strings change x ∷ each_on_strings change rest

abbrev pub on_string : (Bytes → Bytes) → Expr → Expr
on_string change x = if has_class c.String x then with_text (change (text_of x)) x else x

-- the strings in the lists of a label attribute, and in those of the label attributes of a rule
abbrev pub on_label_value : (Bytes → Bytes) → Bytes → List Bytes → Expr → Expr
on_label_value change name outside x = if is_label_attribute name then on_lists (map (on_string change)) x else x

abbrev pub on_labels : (Bytes → Bytes) → Expr → Expr
on_labels change = on_rule_arguments (λ kind. map (on_attribute (on_label_value change)))

-- The lists of an attribute, those that are assigned, and all of a statement: they are changed, knowing the comments above and
-- whether the table has the attribute.
abbrev pub on_list_value : (List Bytes → Bool → List Expr → List Expr) → Bytes → Bytes → List Bytes → Expr → Expr
on_list_value change kind name outside = on_lists (change outside (is_sorted kind name))

abbrev pub on_assigned : (List Bytes → Bool → List Expr → List Expr) → Expr → Expr
on_assigned change x = on_row k.Assign (on_third (on_lists (change (above x) false))) x

abbrev pub on_list_values : (List Bytes → Bool → List Expr → List Expr) → Expr → Expr
on_list_values change x = if has_kind k.Assign x then on_assigned change x else on_rule_arguments (λ kind. map (on_attribute (on_list_value change kind))) x

-- ---- quotes: strings take double quote marks

abbrev pub has_character : ℕ → Bytes → Bool
has_character character text = list_any (λ c. nat_eq c character) text

abbrev pub begins_single : Bytes → Bool
begins_single [] = false
begins_single (c ∷ s) = nat_eq c apostrophe

abbrev pub in_double : ℕ → Bytes → Bytes
in_double n text = replicate n quotation_mark ++ (inside n text ++ replicate n quotation_mark)

-- A string without prefix in ' or ''' that holds no " and no backslash takes " or """.
abbrev pub with_double : Bytes → Bytes
with_double text =
    if begins_single text && not (has_character quotation_mark text || has_character backslash text) then in_double (marks_of text) text else text

abbrev pub quotes_in : Expr → Expr
quotes_in = on_strings with_double

-- ---- labels: in the label attributes of a rule plain strings lose a repeated name

-- A plain string keeps its quote marks around the label without a repeated name; any other string stays.
abbrev pub shorter_string : Bytes → Bytes
shorter_string text = option_map_or (λ label. take 1 text ++ (unrepeated label ++ take 1 text)) (body text) text

abbrev pub labelled : Expr → Expr
labelled = on_string shorter_string

abbrev pub labels_in : Expr → Expr
labels_in = on_labels shorter_string

-- ---- lists: those of the table, and those marked `keep sorted`, are sorted

abbrev pub lists_in : Expr → Expr
lists_in = on_list_values settled_list

-- ---- arguments: each unbroken run of named arguments of a rule by priority, then name, then old order (law
-- `sorting_is_the_one`)

abbrev pub argument_order : Bytes → Bytes → Ordering
argument_order x y = ordering_then (nat_cmp (priority_of x) (priority_of y)) (bytes_order x y)

abbrev pub argument_name : Expr → Bytes
argument_name x = first_text (parts_of x)

abbrev pub name_precedes : Expr → Expr → Bool
name_precedes x y = is_lt (argument_order (argument_name x) (argument_name y))

-- only named arguments are compared
abbrev pub argument_precedes : Expr → Expr → Bool
argument_precedes x y = has_kind k.Named x && has_kind k.Named y && name_precedes x y

abbrev pub arguments_in : Expr → Expr
arguments_in = on_rule_arguments (λ kind. sort_by argument_precedes)

-- ---- symbols: those of a load by local name, then old order (law `sorting_is_the_one`)

abbrev pub symbol_precedes : Expr → Expr → Bool
symbol_precedes x y = is_lt (bytes_order (local_name x) (local_name y))

abbrev pub symbols_in : Expr → Expr
symbols_in = on_items k.Load (on_rest (sort_by symbol_precedes))

-- ---- loads: each longest run of adjacent loads without comments above by path, then old order (law `sorting_is_the_one`)

-- by what a path begins with, in the reverse order of keys: @, then //, then :, then others; then by its bytes
abbrev pub path_order : Bytes → Bytes → Ordering
path_order x y = ordering_then (nat_cmp (group_of y) (group_of x)) (bytes_order x y)

abbrev pub is_run_load : Item → Bool
is_run_load (i.Block lines) = false
is_run_load (i.Stmt x) = has_kind k.Load x && is_empty (above x)

abbrev pub load_path : Item → Bytes
load_path (i.Block lines) = []
load_path (i.Stmt x) = between (first_text (items_of x))

abbrev pub path_precedes : Item → Item → Bool
path_precedes x y = is_lt (path_order (load_path x) (load_path y))

-- only loads without comments above are compared
abbrev pub load_precedes : Item → Item → Bool
load_precedes x y = is_run_load x && is_run_load y && path_precedes x y

abbrev pub loads : List Item → List Item
loads = sort_by load_precedes

-- ---- all in turn

abbrev pub passed : List Item → List Item
passed items = flags (loads (on_taken symbols_in (on_taken arguments_in (on_taken lists_in (on_taken labels_in (on_taken quotes_in items))))))

-- Of a value with suites, or with other nodes of the newer kinds, only the flags are settled.
abbrev pub tidied : List Item → List Item
tidied items = if has_newer items then flags items else passed items
