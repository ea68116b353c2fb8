-- Laws of the commands on the values of attributes.
use Rattle.std.specs.Prelude.{◌≡◌, Bool, true, false, not, List, Some, Ok}
use Rattle.std.specs.List.{list_any, list_all}
use Rattle.std.specs.Option.{option_map_or}
use Rattle.bz_list.specs.Words.{Bytes, Expr, is_escaped, is_nonempty, is_some_item, attribute, has_attribute, has_lists, items_in, is_item, Selects, without}
use Rattle.bz_command_syntax.specs.declared.command.Selects.TheVariants.{Skipped}
use Rattle.bz_list.specs.Changes.{add, remove_values}

-- every word is an item of the value's lists
abbrev pub are_there : Bytes → Bytes → List Bytes → Expr → Bool
are_there current name words value = list_all (λ word. list_any (is_item current name word) (items_in Skipped value)) words

-- The words become strings that are plain: no quotation mark, no backslash and no newline in them.
abbrev pub become_plain : List Bytes → Bool
become_plain words = list_all (λ word. not (list_any is_escaped word)) words

-- Adding what is there changes nothing.
abbrev pub AddedAgain : Type 0
AddedAgain =
    (current name : Bytes) (words : List Bytes) (arguments : List Expr) (value : Expr)
    → attribute name arguments ≡ Some value → has_lists Skipped value ≡ true → are_there current name words value ≡ true
    → add current name words arguments ≡ Ok arguments

-- What was added is there afterwards.
abbrev pub AddedIsThere : Type 0
AddedIsThere =
    (current name : Bytes) (words : List Bytes) (arguments new : List Expr)
    → become_plain words ≡ true → add current name words arguments ≡ Ok new
    → option_map_or (are_there current name words) (attribute name new) false ≡ true

-- Removing what was added to an absent attribute gives the arguments before.
abbrev pub RemovedAgain : Type 0
RemovedAgain =
    (current name : Bytes) (words : List Bytes) (arguments new : List Expr)
    → has_attribute name arguments ≡ false → is_nonempty words ≡ true → become_plain words ≡ true → add current name words arguments ≡ Ok new
    → remove_values Skipped current name words new ≡ Ok arguments

-- none of the words is an item of the value's lists
abbrev pub are_gone : Selects → Bytes → Bytes → List Bytes → Expr → Bool
are_gone selects current name words value = not (list_any (is_some_item current name words) (items_in selects value))

-- What was removed is gone afterwards, from all lists that the command looks at, where no other attribute has the name.
abbrev pub RemovedIsGone : Type 0
RemovedIsGone =
    (selects : Selects) (current name : Bytes) (words : List Bytes) (arguments new : List Expr)
    → has_attribute name (without name arguments) ≡ false → remove_values selects current name words arguments ≡ Ok new
    → option_map_or (are_gone selects current name words) (attribute name new) true ≡ true

-- Removing twice is removing once.
abbrev pub RemovedTwice : Type 0
RemovedTwice =
    (selects : Selects) (current name : Bytes) (words : List Bytes) (arguments new : List Expr)
    → has_attribute name (without name arguments) ≡ false → remove_values selects current name words arguments ≡ Ok new
    → remove_values selects current name words new ≡ Ok new
