-- What is done to one statement in one walk: to lists, the values of attributes, the arguments of a rule.
use Rattle.std.specs.Prelude.{Bool, List, if◌then◌else◌, map}
use Rattle.bz_grammar.specs.declared.kind.Kind.TheVariants as k
use Rattle.bz_passes.specs.Words.{is_label_attribute, is_sorted, Expr, Bytes, has_kind, on_lists}
use Rattle.bz_passes.specs.Sorting.{sort_by}
use Rattle.bz_passes.specs.Lists.{settled_list}
use Rattle.bz_passes.specs.Passes.{argument_precedes, arguments_in, labelled, labels_in, lists_in, on_assigned, on_attribute, on_rule_arguments, quotes_in, symbols_in}

-- the labels of a list lose a repeated name, where it is a label attribute's
abbrev pub labels_changed : Bool → List Expr → List Expr
labels_changed has_labels xs = if has_labels then map labelled xs else xs

-- and then it is sorted, where it is to be
unfoldable pub list_changed : Bool → List Bytes → Bool → List Expr → List Expr
list_changed has_labels outside by_table xs = settled_list outside by_table (labels_changed has_labels xs)

-- the lists of an attribute, knowing the kind of the rule, the name and the comments above
unfoldable pub attribute_changed : Bytes → Bytes → List Bytes → Expr → Expr
attribute_changed kind name outside = on_lists (list_changed (is_label_attribute name) outside (is_sorted kind name))

-- the arguments of a rule, knowing its kind
unfoldable pub arguments_changed : Bytes → List Expr → List Expr
arguments_changed kind xs = sort_by argument_precedes (map (on_attribute (attribute_changed kind)) xs)

-- labels, lists and arguments of a statement, in one walk
abbrev pub lists_and_arguments : Expr → Expr
lists_and_arguments x = if has_kind k.Assign x then on_assigned settled_list x else on_rule_arguments arguments_changed x

-- the passes over one statement
abbrev pub after_passes : Expr → Expr
after_passes x = symbols_in (arguments_in (lists_in (labels_in (quotes_in x))))
