-- The dicts of attributes: entries that are added, set and removed. (Own profile of buildozer's dict commands.)
use Rattle.std.specs.Prelude.{Bool, false, not, ◌&&◌, List, [], ◌∷◌, ◌++◌, Option, None, Ok, Err, codes, if◌then◌else◌}
use Rattle.bz_command_syntax.specs.declared.command.Selects.TheVariants.{Skipped}
use Rattle.std.specs.List.{list_any, filter}
use Rattle.std.specs.Option.{option_map_or}
use Rattle.bz_token.specs.declared.class.Class.TheVariants as c
use Rattle.bz_grammar.specs.declared.kind.Kind.TheVariants as k
use Rattle.bz_value.specs.declared.value.Expr.TheVariants as e
use Rattle.bz_change.specs.Changes.{each_same, is_set, is_token, setting, single_setting}
use Rattle.bz_change.specs.Words.{Expr, Token, Bytes, is_list_attribute, has_attribute, has_lists, is_item, is_spelled, list_of, put, string_text, strings_added, with_strings, with_text, is_empty, DictOperation, Entry, quoted_of, attribute, is_text, has_kind, parts_of, items_of, on_row, on_items, on_third, token, node, mark, sequence, string_of, on_first_that, with_value, with_new, without, Arguments, by_value, body_of}
use Rattle.bz_command_syntax.specs.declared.command.DictOperation.TheVariants as wd
use Rattle.bz_change.specs.declared.dicts.Change.{Change}
use Rattle.bz_change.specs.declared.dicts.Change.TheVariants.{Add, Set, Select}
use Rattle.bz_value.specs.declared.refusal.Refusal.TheVariants.{NotAList, NotADict}

-- ---- entries

-- the key of an entry, where it is a plain string: its body
abbrev pub key_in : List Expr → Option Bytes
key_in [] = None
key_in (x ∷ xs) = body_of x

abbrev pub key_of : Expr → Option Bytes
key_of x = if has_kind k.Entry x then key_in (parts_of x) else None

-- A key is there where an entry's key is a plain string with that body.
abbrev pub has_key : Bytes → Expr → Bool
has_key key x = is_text key (key_of x)

abbrev pub has_some_key : List Bytes → Expr → Bool
has_some_key keys x = list_any (λ key. has_key key x) keys

-- the value of an entry, changed
abbrev pub on_entry : (Expr → Expr) → Expr → Expr
on_entry change x = on_row k.Entry (on_third change) x

-- "key": value; the key is never shortened
abbrev pub entry_with : Bytes → Expr → Expr
entry_with key value = node k.Entry (token c.String (quoted_of key) ∷ mark (codes ":") ∷ value ∷ [])

-- the value that a new entry gets: a string, which in a label attribute is shortened; in a `select` what `set` makes of the word
abbrev pub value_made : Change → Bytes → Bytes → Bytes → Expr
value_made Add current name word = string_of current name word
value_made Set current name word = string_of current name word
value_made Select current name word = setting current name (word ∷ [])

abbrev pub entry_made : Change → Bytes → Bytes → Entry → Expr
entry_made change current name entry = entry_with entry.key (value_made change current name entry.value)

-- ---- the entries of a dict, changed

-- the value of a key that comes again in a `select`: in a list attribute its list with the word, as `add` adds it, else the later one
abbrev pub value_again : Bytes → Bytes → Bytes → Expr → Expr
value_again current name word old =
    if is_list_attribute name then with_strings current name (word ∷ []) old else setting current name (word ∷ [])

-- an entry whose key is there stays, or gets another value
abbrev pub entry_changed : Change → Bytes → Bytes → Entry → Expr → Expr
entry_changed Add current name entry x = x
entry_changed Set current name entry x = on_entry (λ old. string_of current name entry.value) x
entry_changed Select current name entry x = on_entry (value_again current name entry.value) x

-- the first entry of the key changes; where there is none, a new entry goes last
abbrev pub entry_put : Change → Bytes → Bytes → Entry → List Expr → List Expr
entry_put change current name entry items =
    if list_any (has_key entry.key) items then on_first_that (has_key entry.key) (entry_changed change current name entry) items
    else items ++ entry_made change current name entry ∷ []

-- the entries of one command are taken one after the other
abbrev pub entries_put : Change → Bytes → Bytes → List Entry → List Expr → List Expr
entries_put change current name [] items = items
entries_put change current name (entry ∷ entries) items = entries_put change current name entries (entry_put change current name entry items)

-- all entries of these keys are gone
abbrev pub without_entries : List Bytes → List Expr → List Expr
without_entries keys items = filter (λ x. not (has_some_key keys x)) items

-- the value of an entry is a list, or a sum with one
abbrev pub has_list_in : List Expr → Bool
has_list_in (x ∷ y ∷ z ∷ rest) = has_lists Skipped z
has_list_in _ = false

abbrev pub has_list_value : Expr → Bool
has_list_value x = has_kind k.Entry x && has_list_in (parts_of x)

-- the first entry of a key has another value, which takes no items
abbrev pub takes_no_items : Bytes → List Expr → Bool
takes_no_items key [] = false
takes_no_items key (x ∷ xs) = if has_key key x then not (has_list_value x) else takes_no_items key xs

-- words go to the lists of the first entry of a key as `add` adds them to those of an attribute; where there is none, a new entry goes last
abbrev pub list_put : Bytes → Bytes → Bytes → List Bytes → List Expr → List Expr
list_put current name key words items =
    if list_any (has_key key) items then on_first_that (has_key key) (on_entry (with_strings current name words)) items
    else items ++ entry_with key (list_of (strings_added current name words [])) ∷ []

-- a token that becomes another one keeps its comments
abbrev pub as_token : Expr → Expr → Expr
as_token (Token new) (Token t) = e.Token (record t { class = new.class; text = new.text })
as_token new x = x

-- a plain string that means the old value becomes a string, a name or a number that is spelled so what `set` makes of the new one
abbrev pub value_replaced : Bytes → Bytes → Bytes → Bytes → Expr → Expr
value_replaced current name old new x =
    if is_item current name old x then with_text (string_text current name new) x
    else (if is_spelled old x then as_token (single_setting current name new) x else x)

-- ---- the commands

abbrev pub dict_of : List Expr → Expr
dict_of items = sequence k.Dict [] items

-- A change of an attribute's dict; where it is absent, a new dict. Any other value is refused.
abbrev pub on_dict : Bytes → (List Expr → List Expr) → List Expr → Arguments
on_dict name change arguments =
    by_value (attribute name arguments) (Ok (with_new name (dict_of (change [])) arguments))
    (λ value. if has_kind k.Dict value then Ok (with_value name (on_items k.Dict change value) arguments) else Err NotADict)

abbrev pub dict_add : Bytes → Bytes → List Entry → List Expr → Arguments
dict_add current name entries = on_dict name (entries_put Add current name entries)

abbrev pub dict_set : Bytes → Bytes → List Entry → List Expr → Arguments
dict_set current name entries = on_dict name (entries_put Set current name entries)

-- an emptied dict goes with its attribute; one that was empty stays
abbrev pub with_dict_left : Bytes → Expr → Expr → List Expr → List Expr
with_dict_left name old new arguments = if is_empty (items_of new) && not (is_empty (items_of old)) then without name arguments else with_value name new arguments

abbrev pub dict_remove : Bytes → List Bytes → List Expr → Arguments
dict_remove name keys arguments =
    by_value (attribute name arguments) (Ok arguments)
    (λ value. if has_kind k.Dict value then Ok (with_dict_left name value (on_items k.Dict (without_entries keys) value) arguments) else Err NotADict)

-- the same, where the attribute is there
abbrev pub where_there : Bytes → (List Expr → List Expr) → List Expr → Arguments
where_there name change arguments = if has_attribute name arguments then on_dict name change arguments else Ok arguments

-- The value of the first entry of the key changes where it is the old one.
abbrev pub dict_replace_if_equal : Bytes → Bytes → Bytes → Bytes → Bytes → List Expr → Arguments
dict_replace_if_equal current name key old new = where_there name (on_first_that (has_key key) (on_entry (value_replaced current name old new)))

abbrev pub refuses_items : Bytes → Expr → Bool
refuses_items key value = has_kind k.Dict value && takes_no_items key (items_of value)

abbrev pub dict_list_add : Bytes → Bytes → Bytes → List Bytes → List Expr → Arguments
dict_list_add current name key words arguments =
    if option_map_or (refuses_items key) (attribute name arguments) false then Err NotAList else on_dict name (list_put current name key words) arguments

-- select({"key": value, ..}): the entries are taken one after the other
abbrev pub select_of : Bytes → Bytes → List Entry → Expr
select_of current name entries = sequence k.Call (token c.Name (codes "select") ∷ []) (dict_of (entries_put Select current name entries []) ∷ [])

-- the same entries, the same dicts, the same calls, comments and flags aside
abbrev pub is_entry_set : Expr → Expr → Bool
is_entry_set new x = has_kind k.Entry x && each_same is_set (parts_of new) (parts_of x)

abbrev pub is_dict_set : Expr → Expr → Bool
is_dict_set new x = has_kind k.Dict x && each_same is_entry_set (items_of new) (items_of x)

abbrev pub is_select_set : Expr → Expr → Bool
is_select_set new x = has_kind k.Call x && (each_same is_token (parts_of new) (parts_of x) && each_same is_dict_set (items_of new) (items_of x))

abbrev pub set_select : Bytes → Bytes → List Entry → List Expr → Arguments
set_select current name entries arguments =
    Ok (if option_map_or (is_select_set (select_of current name entries)) (attribute name arguments) false then arguments
    else put name (select_of current name entries) arguments)

-- the table of these commands
abbrev pub dicts_changed : DictOperation → Bytes → List Expr → Arguments
dicts_changed (wd.Add name entries) current arguments = dict_add current name entries arguments
dicts_changed (wd.Set name entries) current arguments = dict_set current name entries arguments
dicts_changed (wd.Remove name keys) current arguments = dict_remove name keys arguments
dicts_changed (wd.ReplaceIfEqual name key old new) current arguments = dict_replace_if_equal current name key old new arguments
dicts_changed (wd.ListAdd name key words) current arguments = dict_list_add current name key words arguments
dicts_changed (wd.Select name entries) current arguments = set_select current name entries arguments
