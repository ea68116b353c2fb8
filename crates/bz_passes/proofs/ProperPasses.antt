-- Each pass keeps the values of BUILD files proper.
use Rattle.bz_passes.proofs.Words.{◌≡◌, above, All, All-from_recursion, All-map, All-weaker, any_marked, AreComments, argument_precedes, arguments_in, Bool, build_grammar as build, by_test, Bytes, cases_Bool, Class as c, comments_of, each_on_strings, EachStays, end_of-Expr, Expr, false, first_stays, first_text, flags_proper, Form', has_class, has_kind, HostComments, inl, inr, is_class, is_label_attribute, is_sorted, IsComment, IsProperIn, IsProperItemIn, Item, Item as i, items-the_row-Expr, items_stay, Kind as k, labelled, labels_in, leave_alone, List, lists_in, lists_stay, load_precedes, loads, map, more_of-Expr, None, of_rule, on_assigned, on_attribute, on_call, on_first, on_items, on_label_value, on_list_value, on_lists, on_rule_arguments, on_statement, on_taken, on_third, Option, parts_of, passed, quotes_in, recursion_from_All, refl, Row_of-Expr, row_stays, rule_kind, settled_list, shorter_string, Some, sort_by, Stays, string_in_place, subst, symbol_precedes, symbols_in, taken, text_of, third_stays, Token, true, with_above, with_double, with_text}
use Rattle.bz_grammar.specs.{Shapes.Nonterminal, Spots.Begins}
use Rattle.bz_value.specs.Commented.{with_comments}
use Rattle.bz_rule.proofs.ProperSequences.{IsItem, Keeps, where_true, list_in_place, call_in_place, load_in_place}
use Rattle.bz_passes.proofs.{Listed.settled_all, ProperStrings.double_string, ProperStrings.shorter_is_string, Sorting.sort_all}
use Rattle.bz_grammar.specs.Shapes as s
use Rattle.bz_rule.proofs.ProperForms.{InPlace, itself, EachInPlace, none, both, all_itself, each_mapped, lists_in_place, build_plain}

-- an item with other comments
with_item : (nonterminal : Nonterminal) (x : Expr) (comments : HostComments) → AreComments comments → IsItem build nonterminal x → IsItem build nonterminal (with_comments x comments)
with_item nonterminal (Token t) comments c h = ((h.0.0, c, h.0.2), h.1)
with_item nonterminal (Form' kind s parts s' items end split open_break old) comments c h = ((h.0.0, c, h.0.2), h.1)

above_item : (nonterminal : Nonterminal) (comments : List Bytes) (x : Expr) → All IsComment comments → IsItem build nonterminal x → IsItem build nonterminal (with_above comments x)
above_item nonterminal comments x c h = with_item nonterminal x (record (comments_of x) { before = comments }) (c, h.0.1.1) h

pub settled_items : (nonterminal : Nonterminal) (outside : List Bytes) (by_table : Bool) → Keeps build nonterminal (settled_list outside by_table)
settled_items nonterminal =
    settled_all IsComment (IsItem build nonterminal) (λ x h. recursion_from_All IsComment (above x) h.0.1.0)
    (λ comments x c h. above_item nonterminal comments x (All-from_recursion IsComment comments c) h)

-- ---- changes of statements and of rules

rule_stays : (change : Bytes → List Expr → List Expr) → ((o : Option Bytes) → Stays build (on_items k.Call (of_rule change o))) → Stays build (on_rule_arguments change)
rule_stays change h = row_stays build k.Bare refl (on_first (on_call change)) (first_stays build (on_call change) (λ x. h (rule_kind (parts_of x)) x))

attributes_stay : (change : Bytes → Bytes → List Bytes → Expr → Expr) → ((kind name : Bytes) (outside : List Bytes) → Stays build (change kind name outside)) → (o : Option Bytes) → EachStays build (of_rule (λ kind. map (on_attribute (change kind))) o)
attributes_stay change h None xs = all_itself build xs
attributes_stay change h (Some kind) xs =
    each_mapped build (on_attribute (change kind)) (λ x. row_stays build k.Named refl (on_third (change kind (first_text (parts_of x)) (above x))) (third_stays build (change kind (first_text (parts_of x)) (above x)) (h kind (first_text (parts_of x)) (above x))) x) xs

-- the values of a rule's attributes
values_stay : (change : Bytes → Bytes → List Bytes → Expr → Expr) → ((kind name : Bytes) (outside : List Bytes) → Stays build (change kind name outside)) → Stays build (on_rule_arguments (λ kind. map (on_attribute (change kind))))
values_stay change h = rule_stays (λ kind. map (on_attribute (change kind))) (λ o. items_stay build k.Call refl (of_rule (λ kind. map (on_attribute (change kind))) o) (attributes_stay change h o))

statement_proper : (change : Expr → Expr) → Stays build change → (item : Item) → IsProperItemIn build item → IsProperItemIn build (on_statement change item)
statement_proper change h (i.Block texts) w = w
statement_proper change h (i.Stmt x) w = let r = h x in (subst (λ b. b ≡ true) (r.statement Begins w.1) w.0, r.proper Begins w.1, subst AreComments r.comments w.2)

taken_stays : (change : Expr → Expr) → Stays build change → Stays build (taken change)
taken_stays change h x = by_test (InPlace build x) (any_marked leave_alone (above x)) x (change x) (itself build x) (h x)

taken_proper : (change : Expr → Expr) → Stays build change → (items : List Item) → IsProperIn build items → IsProperIn build (on_taken change items)
taken_proper change h items w =
    All-map (IsProperItemIn build) (on_statement (taken change)) items (All-weaker (IsProperItemIn build) (λ x. IsProperItemIn build (on_statement (taken change) x)) (statement_proper (taken change) (taken_stays change h)) items w)

-- ---- quotes

mutual
  quoted_stays : Stays build quotes_in
  quoted_stays (Token t) = elim (cases_Bool (is_class t.class c.String)) [
    | inl w ↦ rw w (string_in_place build (with_double t.text) (Token t) w (double_string t.text))
    | inr w ↦ rw w (itself build (Token t))
  ]
  quoted_stays (Form' kind s parts s' items end split open_break comments) =
      lists_in_place build (each_on_strings with_double parts) (each_on_strings with_double items) (Form' kind s parts s' items end split open_break comments) (build_plain (Form' kind s parts s' items end split open_break comments)) (each_quoted_stays _ parts) (each_quoted_stays _ items)

  each_quoted_stays : (m : _) (r : Row_of-Expr m) → EachInPlace build (items-the_row-Expr m r) (each_on_strings with_double r)
  each_quoted_stays m end_of-Expr = none
  each_quoted_stays m (more_of-Expr x rest) = both x (quotes_in x) _ _ (quoted_stays x) (each_quoted_stays _ rest)

-- ---- labels

labelled_stays : Stays build labelled
labelled_stays x = where_true build (has_class c.String x) x (with_text (shorter_string (text_of x)) x) (λ is. string_in_place build (shorter_string (text_of x)) x is (shorter_is_string (text_of x)))

labelled_value_stays : (name : Bytes) (outside : List Bytes) → Stays build (on_label_value shorter_string name outside)
labelled_value_stays name outside x =
    where_true build (is_label_attribute name) x (on_lists (map labelled) x) (λ is. lists_stay build (map labelled) (items_stay build k.List refl (map labelled) (each_mapped build labelled labelled_stays)) x)

-- ---- lists

settled_stays : (outside : List Bytes) (by_table : Bool) → Stays build (on_lists (settled_list outside by_table))
settled_stays outside by_table = lists_stay build (settled_list outside by_table) (list_in_place build (settled_list outside by_table) (settled_items s.test outside by_table))

lists_in_stays : Stays build lists_in
lists_in_stays x =
    by_test (InPlace build x) (has_kind k.Assign x) (on_assigned settled_list x) (on_rule_arguments (λ kind. map (on_attribute (on_list_value settled_list kind))) x)
    (row_stays build k.Assign refl (on_third (on_lists (settled_list (above x) false))) (third_stays build (on_lists (settled_list (above x) false)) (settled_stays (above x) false)) x)
    (values_stay (on_list_value settled_list) (λ kind name outside. settled_stays outside (is_sorted kind name)) x)

-- ---- arguments

arguments_kept : (o : Option Bytes) → Keeps build s.argument (of_rule (λ kind. sort_by argument_precedes) o)
arguments_kept None xs h = h
arguments_kept (Some kind) xs h = sort_all argument_precedes (IsItem build s.argument) xs h

-- ---- all in turn

pub passed_proper : (items : List Item) → IsProperIn build items → IsProperIn build (passed items)
passed_proper items h =
    let quoted : List Item = on_taken quotes_in items in
    let labelled : List Item = on_taken labels_in quoted in
    let listed : List Item = on_taken lists_in labelled in
    let arranged : List Item = on_taken arguments_in listed in
    let named : List Item = on_taken symbols_in arranged in
    let all : IsProperIn build named =
    taken_proper symbols_in (load_in_place build (sort_by symbol_precedes) (sort_all symbol_precedes (IsItem build s.loaded))) arranged
    (taken_proper arguments_in (rule_stays (λ kind. sort_by argument_precedes) (λ o. call_in_place build (of_rule (λ kind. sort_by argument_precedes) o) (arguments_kept o))) listed
    (taken_proper lists_in lists_in_stays labelled
    (taken_proper labels_in (values_stay (λ kind. on_label_value shorter_string) (λ kind. labelled_value_stays)) quoted
    (taken_proper quotes_in quoted_stays items h)))) in
    flags_proper build (loads named) (All-from_recursion (IsProperItemIn build) (loads named) (sort_all load_precedes (IsProperItemIn build) named (recursion_from_All (IsProperItemIn build) named all)))
