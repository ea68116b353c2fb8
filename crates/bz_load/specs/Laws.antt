-- Laws of the commands on loads.
use Rattle.std.specs.Prelude.{◌≡◌, All, Bool, true, false, not, List, [], IsUtf8, length, if◌then◌else◌}
use Rattle.std.specs.List.{filter, flat_map, list_any, list_all}
use Rattle.bz_load.specs.Words.{Expr, Item, times, Bytes, IsProper, IsProperIn, Grammar, IsSymbol, AreSome, is_escaped, Symbol, Fixes, without_first}
use Rattle.bz_load.specs.Loads.{is_load_item, is_loaded, symbols_of}
use Rattle.bz_load.specs.NewLoad.{new_load}
use Rattle.bz_load.specs.ReplaceLoad.{is_local, last_of_each, replace_load}
use Rattle.bz_load.specs.SubstituteLoad.{substitute_load}
use Rattle.bz_load.specs.Fixes.{is_used, is_emptied, unused_loads, is_package_call, move_package_to_top, fix}

-- What each command on loads makes of proper items by words that were read is proper: in a BUILD file as in any.
abbrev pub LoadsStayProper : Type 0
LoadsStayProper =
    ((grammar : Grammar) (path : Bytes) (symbols : List Symbol) (items : List Item) → IsUtf8 path → AreSome IsSymbol symbols → IsProperIn grammar items → IsProperIn grammar (new_load path symbols items))
    × ((grammar : Grammar) (fixes : Fixes) (items : List Item) → IsProperIn grammar items → IsProperIn grammar (fix fixes items))
    × ((grammar : Grammar) (pattern template : Bytes) (items : List Item) → IsProperIn grammar items → IsProperIn grammar (substitute_load pattern template items))
    × ((grammar : Grammar) (path : Bytes) (symbols : List Symbol) (items : List Item) → IsUtf8 path → AreSome IsSymbol symbols → IsProperIn grammar items → IsProperIn grammar (replace_load path symbols items))

-- ---- once more

-- It becomes a string that is plain: no quotation mark, no backslash and no newline in it.
abbrev pub becomes_plain : Bytes → Bool
becomes_plain text = not (list_any is_escaped text)

-- Loading the same symbols once more changes nothing.
abbrev pub LoadedAgain : Type 0
LoadedAgain =
    (path : Bytes) (symbols : List Symbol) (items : List Item)
    → becomes_plain path ≡ true → list_all (λ symbol. becomes_plain symbol.from) symbols ≡ true
    → new_load path symbols (new_load path symbols items) ≡ new_load path symbols items

-- the symbols of all loads
abbrev pub loaded_symbols : List Item → List Expr
loaded_symbols items = flat_map (λ item. if is_load_item item then symbols_of item else []) items

-- A load from the path has the symbol, and no other one of a load has its local name.
abbrev pub IsLoadedAlone : Bytes → List Item → Symbol → Type 0
IsLoadedAlone path items symbol = (is_loaded path items symbol ≡ true) × (length (filter (is_local symbol) (loaded_symbols items)) ≡ 1)

-- Of symbols with one local name the last is then loaded so.
abbrev pub ReplacedAlone : Type 0
ReplacedAlone =
    (path : Bytes) (symbols : List Symbol) (items : List Item)
    → becomes_plain path ≡ true → list_all (λ symbol. becomes_plain symbol.from) symbols ≡ true
    → All (IsLoadedAlone path (replace_load path symbols items)) (last_of_each symbols)

-- The same symbols once more change nothing.
abbrev pub ReplacedAgain : Type 0
ReplacedAgain =
    (path : Bytes) (symbols : List Symbol) (items : List Item)
    → becomes_plain path ≡ true → list_all (λ symbol. becomes_plain symbol.from) symbols ≡ true
    → replace_load path symbols (replace_load path symbols items) ≡ replace_load path symbols items

-- In a proper file no load uses a name, so what is unused is unused whatever goes.
abbrev pub UnusedAgain : Type 0
UnusedAgain = (items : List Item) → IsProper items → unused_loads (unused_loads items) ≡ unused_loads items

-- a second rule of kind `package`
abbrev pub has_second_package : List Item → Bool
has_second_package items = list_any is_package_call (without_first is_package_call items)

abbrev pub MovedAgain : Type 0
MovedAgain = (items : List Item) → has_second_package items ≡ false → move_package_to_top (move_package_to_top items) ≡ move_package_to_top items

-- one of the loads loses its last symbol
abbrev pub loses_load : List Item → Bool
loses_load items = list_any (is_emptied (is_used items)) items

-- Where a load goes, the package may go after another one the next time.
abbrev pub FixedAgain : Type 0
FixedAgain =
    (fixes : Fixes) (items : List Item) → IsProper items → has_second_package items ≡ false → loses_load (move_package_to_top items) ≡ false
    → fix fixes (fix fixes items) ≡ fix fixes items

-- ---- comments

-- Each comment is there as often as before.
abbrev pub LoadsKeepComments : Type 0
LoadsKeepComments =
    ((path : Bytes) (symbols : List Symbol) (items : List Item) (text : Bytes) → times text (new_load path symbols items) ≡ times text items)
    × ((fixes : Fixes) (items : List Item) → IsProper items → (text : Bytes) → times text (fix fixes items) ≡ times text items)
    × ((pattern template : Bytes) (items : List Item) (text : Bytes) → times text (substitute_load pattern template items) ≡ times text items)
    × ((grammar : Grammar) (path : Bytes) (symbols : List Symbol) (items : List Item) → IsUtf8 path → AreSome IsSymbol symbols → IsProperIn grammar items → (text : Bytes)
    → times text (replace_load path symbols items) ≡ times text items)
