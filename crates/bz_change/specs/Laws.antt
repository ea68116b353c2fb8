-- Laws of the commands on dicts.
use Rattle.std.specs.Prelude.{◌≡◌, ◌≤◌, ℕ, Bool, true, false, not, ◌&&◌, List, Some, Ok, map}
use Rattle.std.specs.List.{list_any, list_all}
use Rattle.std.specs.Option.{option_map_or}
use Rattle.bz_grammar.specs.declared.kind.Kind.TheVariants as k
use Rattle.bz_change.specs.Words.{Bytes, Expr, Entry, amount, attribute, become_plain, has_attribute, has_kind, is_escaped, is_nonempty, items_of, one_if, total}
use Rattle.bz_change.specs.Dicts.{dict_add, dict_list_add, dict_remove, dict_set, has_key, set_select}

-- an entry has the key of each of these
abbrev pub are_keys : List Entry → List Expr → Bool
are_keys entries items = list_all (λ entry. list_any (has_key entry.key) items) entries

-- the value is a dict with an entry of the key of each of these
abbrev pub has_keys : List Entry → Expr → Bool
has_keys entries value = has_kind k.Dict value && are_keys entries (items_of value)

-- The keys become strings that are plain: no quotation mark, no backslash and no newline in them.
abbrev pub have_plain_keys : List Entry → Bool
have_plain_keys entries = list_all (λ entry. not (list_any is_escaped entry.key)) entries

abbrev pub keys_of : List Entry → List Bytes
keys_of entries = map (λ (entry : Entry). entry.key) entries

-- Adding entries whose keys are there changes nothing.
abbrev pub EntriesAddedAgain : Type 0
EntriesAddedAgain =
    (current name : Bytes) (entries : List Entry) (arguments : List Expr) (value : Expr)
    → attribute name arguments ≡ Some value → has_keys entries value ≡ true
    → dict_add current name entries arguments ≡ Ok arguments

-- The key of each entry that was added is there afterwards.
abbrev pub EntriesAddedAreThere : Type 0
EntriesAddedAreThere =
    (current name : Bytes) (entries : List Entry) (arguments new : List Expr)
    → have_plain_keys entries ≡ true → dict_add current name entries arguments ≡ Ok new
    → option_map_or (has_keys entries) (attribute name new) false ≡ true

-- The same of each entry that was set.
abbrev pub EntriesSetAreThere : Type 0
EntriesSetAreThere =
    (current name : Bytes) (entries : List Entry) (arguments new : List Expr)
    → have_plain_keys entries ≡ true → dict_set current name entries arguments ≡ Ok new
    → option_map_or (has_keys entries) (attribute name new) false ≡ true

-- Removing the keys of what was added to an absent attribute gives the arguments before.
abbrev pub EntriesRemovedAgain : Type 0
EntriesRemovedAgain =
    (current name : Bytes) (entries : List Entry) (arguments new : List Expr)
    → has_attribute name arguments ≡ false → is_nonempty entries ≡ true → have_plain_keys entries ≡ true → dict_add current name entries arguments ≡ Ok new
    → dict_remove name (keys_of entries) new ≡ Ok arguments

-- Values that are added to the list of a key once more are there already. Where key and values become strings that are plain.
abbrev pub ListAddedTwice : Type 0
ListAddedTwice =
    (current name key : Bytes) (words : List Bytes) (arguments new : List Expr)
    → list_any is_escaped key ≡ false → become_plain words ≡ true → dict_list_add current name key words arguments ≡ Ok new
    → dict_list_add current name key words new ≡ Ok new

-- how often a comment occurs in these
abbrev pub times_in : Bytes → List Expr → ℕ
times_in text exprs = total (amount (one_if text)) exprs

-- A `select` takes no comment away where the attribute was absent.
abbrev pub SelectKeepsComments : Type 0
SelectKeepsComments =
    (current name : Bytes) (entries : List Entry) (arguments new : List Expr)
    → has_attribute name arguments ≡ false → set_select current name entries arguments ≡ Ok new
    → (text : Bytes) → times_in text arguments ≤ times_in text new
