-- What the commands on the values of attributes make of the arguments of a rule. `remove`, `replace` and `substitute` may enter the branches
-- of `select`, the others never do.
use Rattle.std.specs.Prelude.{Bool, true, false, not, ◌&&◌, ◌||◌, List, [], ◌∷◌, Ok, Err, map, if◌then◌else◌, bytes_eq}
use Rattle.std.specs.List.{list_any, filter, flat_map}
use Rattle.std.specs.Option.{option_map_or}
use Rattle.bz_list.specs.Words.{Expr, Bytes, ValueOperation, Attributes, Selects, Values, attribute, parts_of, with_text, first_text, text_of, has_class, on_lists, string_text, string_of, list_of, plus, is_attribute, is_other_attribute, on_first_that, on_value, with_value, with_new, without, Arguments, by_value, has_lists, items_in, is_no_list, is_empty_list, with_more, body_of, is_item, is_some_item, fresh, arriving}
use Rattle.bz_token.specs.declared.class.Class.TheVariants as c
use Rattle.bz_command_syntax.specs.Patterns.{substituted}
use Rattle.bz_command_syntax.specs.declared.command.Selects.TheVariants.{Skipped}
use Rattle.bz_command_syntax.specs.declared.command.ValueOperation.TheVariants as wv
use Rattle.bz_command_syntax.specs.declared.command.Attributes.TheVariants as a
use Rattle.bz_command_syntax.specs.declared.command.Values.TheVariants as v
use Rattle.bz_value.specs.declared.refusal.Refusal.TheVariants.{NoAttribute, NotAList}

-- ---- add

-- items go to the end of the first list; a value that is no list becomes a sum with a new one
abbrev pub with_items_added : Bytes → (List Expr → List Expr) → List Expr → Arguments
with_items_added name added arguments =
    by_value (attribute name arguments) (Ok (with_new name (list_of (added [])) arguments))
    (λ value.
    if has_lists Skipped value then Ok (with_value name (with_more (added (items_in Skipped value)) value) arguments)
    else (if is_no_list value then Err NotAList else Ok (with_value name (plus value (list_of (added []))) arguments)))

-- the strings of the words that are none of these items, each once
abbrev pub strings_added : Bytes → Bytes → List Bytes → List Expr → List Expr
strings_added current name words items = map (string_of current name) (fresh current name items [] words)

-- the value with these
abbrev pub with_strings : Bytes → Bytes → List Bytes → Expr → Expr
with_strings current name words value = with_more (strings_added current name words (items_in Skipped value)) value

abbrev pub add : Bytes → Bytes → List Bytes → List Expr → Arguments
add current name words arguments = with_items_added name (strings_added current name words) arguments

-- ---- remove

-- the attribute without the items that pass a test; it goes where its whole value is then an empty list, so an emptied list in a branch stays
abbrev pub cleared : Bytes → Expr → List Expr → List Expr
cleared name value arguments = if is_empty_list value then without name arguments else with_value name value arguments

abbrev pub without_items : Selects → Bytes → (Expr → Bool) → Expr → List Expr → List Expr
without_items selects name test value arguments =
    if list_any test (items_in selects value) then cleared name (on_lists selects (filter (λ x. not (test x))) value) arguments else arguments

-- the arguments without these values in the lists of an attribute
abbrev pub values_left : Selects → Bytes → Bytes → List Bytes → List Expr → List Expr
values_left selects current name words arguments =
    option_map_or (λ value. without_items selects name (is_some_item current name words) value arguments) (attribute name arguments) arguments

abbrev pub remove_values : Selects → Bytes → Bytes → List Bytes → List Expr → Arguments
remove_values selects current name words arguments =
    by_value (attribute name arguments) (Ok arguments)
    (λ value. if is_no_list value then Err NotAList else Ok (without_items selects name (is_some_item current name words) value arguments))

-- what is left of one argument without these values, where `*` means it; one without lists stays
abbrev pub argument_left : Selects → Bytes → List Bytes → Expr → List Expr
argument_left selects current words x =
    if is_other_attribute x then values_left selects current (first_text (parts_of x)) words (x ∷ []) else x ∷ []

abbrev pub remove_everywhere : Selects → Bytes → List Bytes → List Expr → Arguments
remove_everywhere selects current words arguments = Ok (flat_map (argument_left selects current words) arguments)

-- a name or a number that is spelled so
abbrev pub is_spelled : Bytes → Expr → Bool
is_spelled word x = (has_class c.Name x || has_class c.Number x) && bytes_eq (text_of x) word

-- a plain string that means the same, or a name or a number
abbrev pub equals_word : Bytes → Bytes → Bytes → Expr → Bool
equals_word current name word x = is_item current name word x || is_spelled word x

abbrev pub remove_if_equal : Bytes → Bytes → Bytes → List Expr → Arguments
remove_if_equal current name word arguments =
    Ok (if option_map_or (equals_word current name word) (attribute name arguments) false then without name arguments else arguments)

-- ---- replace

-- in the value itself, and in each item of its lists
abbrev pub in_value : Selects → (Expr → Expr) → Expr → Expr
in_value selects f value = on_lists selects (map f) (f value)

-- in the values of the attributes that are meant; f knows the attribute's name
abbrev pub in_attributes : Attributes → (Bytes → Expr → Expr) → List Expr → List Expr
in_attributes a.All f arguments = map (λ x. if is_other_attribute x then on_value (f (first_text (parts_of x))) x else x) arguments
in_attributes (a.Named name) f arguments = on_first_that (is_attribute name) (on_value (f name)) arguments

-- items that are the old value, or a plain string value that is, become the new one
abbrev pub replaced_item : Bytes → Bytes → Bytes → Bytes → Expr → Expr
replaced_item current name old new x = if is_item current name old x then with_text (string_text current name new) x else x

abbrev pub replace : Selects → Bytes → Attributes → Bytes → Bytes → List Expr → Arguments
replace selects current attributes old new arguments = Ok (in_attributes attributes (λ name. in_value selects (replaced_item current name old new)) arguments)

-- ---- substitute

-- the string with another body, put in as a value is; an equal body leaves it as it is
abbrev pub with_body : Bytes → Bytes → Bytes → Bytes → Expr → Expr
with_body current name body new x = if bytes_eq new body then x else with_text (string_text current name new) x

-- the body of a plain string, with each match replaced
abbrev pub substituted_item : Bytes → Bytes → Bytes → Bytes → Expr → Expr
substituted_item current name pattern template x =
    option_map_or (λ body. with_body current name body (substituted pattern template body) x) (body_of x) x

abbrev pub substitute : Selects → Bytes → Attributes → Bytes → Bytes → List Expr → Arguments
substitute selects current attributes pattern template arguments =
    Ok (in_attributes attributes (λ name. in_value selects (substituted_item current name pattern template)) arguments)

-- ---- move

abbrev pub is_moved : Bytes → Bytes → Values → Expr → Bool
is_moved current name v.All x = true
is_moved current name (v.These words) x = is_some_item current name words x

abbrev pub items_moved : Bytes → Bytes → Bytes → List Expr → List Expr → Arguments
items_moved current from to items left = with_items_added to (λ there. arriving current to there items) left

-- Items leave one attribute as in `remove` and are added to another as in `add`, with their comments unless they are there.
abbrev pub move : Bytes → Bytes → Bytes → Values → List Expr → Arguments
move current from to values arguments =
    by_value (attribute from arguments) (Err NoAttribute)
    (λ value.
    if not (has_lists Skipped value) then Err NotAList
    else (if list_any (is_moved current from values) (items_in Skipped value)
    then items_moved current from to (filter (is_moved current from values) (items_in Skipped value)) (without_items Skipped from (is_moved current from values) value arguments)
    else Ok arguments))

-- ---- all commands

-- What an operation on values makes of the arguments of a rule that it is meant for.
abbrev pub values_changed : ValueOperation → Bytes → List Expr → Arguments
values_changed (wv.Add name words) current arguments = add current name words arguments
values_changed (wv.Remove a.All words selects) current arguments = remove_everywhere selects current words arguments
values_changed (wv.Remove (a.Named name) words selects) current arguments = remove_values selects current name words arguments
values_changed (wv.Replace attributes old new selects) current arguments = replace selects current attributes old new arguments
values_changed (wv.Substitute attributes pattern template selects) current arguments = substitute selects current attributes pattern template arguments
values_changed (wv.Move from to values) current arguments = move current from to values arguments
values_changed (wv.RemoveIfEqual name word) current arguments = remove_if_equal current name word arguments

-- `add` and `remove` of one attribute know whether they change anything: a list grows or it loses items. Of the others one may give back what
-- it takes away, or nothing is said.
abbrev pub tells_change : ValueOperation → Bool
tells_change (wv.Add name words) = true
tells_change (wv.Remove (a.Named name) words selects) = true
tells_change _ = false
