-- The lists of an attribute: its value if that is a list, or the list operands of its value if that is a sum. Where `select` is entered,
-- also those in its branches: a branch is the value of an entry of its dict.
use Rattle.std.specs.Prelude.{Bool, false, not, ◌||◌, ◌&&◌, List, [], ◌∷◌, ◌++◌, Option, if◌then◌else◌, bytes_eq, codes, map}
use Rattle.std.specs.List.{filter, flat_map, list_any}
use Rattle.std.specs.Option.{option_and_then, option_map_or}
use Rattle.bz_token.specs.declared.class.Class.TheVariants as c
use Rattle.bz_grammar.specs.declared.kind.Kind.TheVariants as k
use Rattle.bz_command_syntax.specs.declared.command.Selects.TheVariants.{Skipped, Entered}
use Rattle.bz_attribute.specs.Words.{is_label_attribute, is_same, shortened, Expr, Bytes, Selects, body, is_text, only, text_in, has_kind, has_class, parts_of, items_of, with_text, on_row, on_first, on_third, on_items, quoted_of, is_empty}
use Rattle.bz_attribute.specs.Attributes.{on_first_that}

-- the operands of a sum, or the value alone
abbrev pub operands_of : Expr → List Expr
operands_of value = if has_kind k.Sum value then parts_of value else value ∷ []

-- ---- the branches of `select`

abbrev pub is_first_dict : List Expr → Bool
is_first_dict [] = false
is_first_dict (x ∷ xs) = has_kind k.Dict x

-- a call of the name `select` whose first item is a dict
abbrev pub is_select : Expr → Bool
is_select x = has_kind k.Call x && (is_text (codes "select") (option_and_then (text_in c.Name) (only (parts_of x))) && is_first_dict (items_of x))

-- the entries of that dict
abbrev pub entries_in : List Expr → List Expr
entries_in [] = []
entries_in (dict ∷ rest) = items_of dict

abbrev pub entries_of : Expr → List Expr
entries_of x = if is_select x then entries_in (items_of x) else []

-- the operands of the value of an entry, key : value
abbrev pub operands_after : List Expr → List Expr
operands_after (key ∷ colon ∷ value ∷ rest) = operands_of value
operands_after _ = []

abbrev pub operands_in : Expr → List Expr
operands_in entry = if has_kind k.Entry entry then operands_after (parts_of entry) else []

-- the operands of all branches
abbrev pub branches_of : Expr → List Expr
branches_of x = flat_map operands_in (entries_of x)

-- each branch changed
abbrev pub on_branches : (Expr → Expr) → Expr → Expr
on_branches change x = if is_select x then on_items k.Call (on_first (on_items k.Dict (map (on_row k.Entry (on_third change))))) x else x

-- ---- the lists of a value

-- an operand, and those in its branches; no further `select` is entered
abbrev pub with_branches : Expr → List Expr
with_branches x = x ∷ branches_of x

-- among which the lists are
abbrev pub list_places : Selects → Expr → List Expr
list_places Skipped value = operands_of value
list_places Entered value = flat_map with_branches (operands_of value)

abbrev pub lists_of : Selects → Expr → List Expr
lists_of selects value = filter (has_kind k.List) (list_places selects value)

abbrev pub has_lists : Selects → Expr → Bool
has_lists selects value = not (is_empty (lists_of selects value))

-- the items of a list, and none of what is no list
abbrev pub listed : Expr → List Expr
listed x = if has_kind k.List x then items_of x else []

abbrev pub items_in : Selects → Expr → List Expr
items_in selects value = flat_map items_of (lists_of selects value)

-- each operand of a sum, or the value alone, changed
abbrev pub on_operands : (Expr → Expr) → Expr → Expr
on_operands change value = if has_kind k.Sum value then on_row k.Sum (map change) value else change value

-- an operand changed, and those in its branches
abbrev pub on_operand : Selects → (Expr → Expr) → Expr → Expr
on_operand Skipped change x = change x
on_operand Entered change x = on_branches (on_operands change) (change x)

-- the lists of a value, each changed in its place
abbrev pub on_lists : Selects → (List Expr → List Expr) → Expr → Expr
on_lists selects change value = on_operands (on_operand selects (on_items k.List change)) value

-- a string, a number and a dict can't be taken as a list
abbrev pub is_no_list : Expr → Bool
is_no_list value = has_class c.String value || (has_class c.Number value || has_kind k.Dict value)

abbrev pub is_empty_list : Expr → Bool
is_empty_list value = has_kind k.List value && is_empty (items_of value)

-- further items at the end of the first list
abbrev pub with_more : List Expr → Expr → Expr
with_more more value =
    if has_kind k.Sum value then on_row k.Sum (on_first_that (has_kind k.List) (on_items k.List (λ items. items ++ more))) value
    else on_items k.List (λ items. items ++ more) value

-- ---- values and items

-- the body of a plain string
abbrev pub body_of : Expr → Option Bytes
body_of x = option_and_then body (text_in c.String x)

-- words that mean one value of an attribute: in a label attribute the same label
abbrev pub are_one : Bytes → Bytes → Bytes → Bytes → Bool
are_one current attribute word other = if is_label_attribute attribute then is_same current word other else bytes_eq word other

-- A value is an item that is a plain string and means the same.
abbrev pub is_item : Bytes → Bytes → Bytes → Expr → Bool
is_item current attribute word x = option_map_or (are_one current attribute word) (body_of x) false

abbrev pub is_some_item : Bytes → Bytes → List Bytes → Expr → Bool
is_some_item current attribute words x = list_any (λ word. is_item current attribute word x) words

-- the words that are none of these items, each once
abbrev pub fresh : Bytes → Bytes → List Expr → List Bytes → List Bytes → List Bytes
fresh current attribute items earlier [] = []
fresh current attribute items earlier (word ∷ words) =
    if list_any (are_one current attribute word) earlier || list_any (is_item current attribute word) items
    then fresh current attribute items earlier words
    else word ∷ fresh current attribute items (word ∷ earlier) words

-- ---- items that come from another attribute

-- The token travels; only where the new attribute is a label attribute and its body becomes shorter is it put in anew.
abbrev pub travelled : Bytes → Bytes → Expr → Expr
travelled current attribute x =
    option_map_or (λ text. if is_label_attribute attribute && not (bytes_eq (shortened current text) text) then with_text (quoted_of (shortened current text)) x else x)
    (body_of x) x

abbrev pub is_there : Bytes → Bytes → List Expr → Expr → Bool
is_there current attribute items x = option_map_or (λ text. list_any (is_item current attribute text) items) (body_of x) false

-- those of the moved items that are not there already, each once; what is no plain string is never there already
abbrev pub arriving : Bytes → Bytes → List Expr → List Expr → List Expr
arriving current attribute there [] = []
arriving current attribute there (x ∷ xs) =
    if is_there current attribute there x then arriving current attribute there xs
    else travelled current attribute x ∷ arriving current attribute (x ∷ there) xs
