-- Symbols that are loaded too. (Own profile of buildozer's `new_load`.)
use Rattle.std.specs.Prelude.{Bool, ◌||◌, List, [], ◌∷◌, ◌++◌, codes, map, bytes_eq, if◌then◌else◌}
use Rattle.std.specs.List.{list_any}
use Rattle.bz_token.specs.declared.class.Class.TheVariants as c
use Rattle.bz_grammar.specs.declared.kind.Kind.TheVariants as k
use Rattle.bz_load.specs.Words.{Expr, Item, Bytes, Symbol, quoted_of, on_items, token, node, mark, sequence, name, on_first_that}
use Rattle.bz_value.specs.declared.value.Item.TheVariants as i
use Rattle.bz_load.specs.Loads.{is_load_from, is_symbol, is_loaded, after_loads}

-- a symbol more is known
abbrev pub and_symbol : Symbol → (Symbol → Bool) → Symbol → Bool
and_symbol added is_known other = is_symbol other added || is_known other

-- the symbols that are not known, each once
abbrev pub new_symbols : (Symbol → Bool) → List Symbol → List Symbol
new_symbols is_known [] = []
new_symbols is_known (first ∷ rest) = if is_known first then new_symbols is_known rest else first ∷ new_symbols (and_symbol first is_known) rest

-- an alias, or where both names are one the string alone
abbrev pub symbol_made : Symbol → Expr
symbol_made symbol =
    if bytes_eq symbol.to symbol.from then token c.String (quoted_of symbol.from)
    else node k.Alias (name symbol.to ∷ mark (codes "=") ∷ token c.String (quoted_of symbol.from) ∷ [])

abbrev pub load_made : Bytes → List Expr → Item
load_made path symbols = i.Stmt (sequence k.Load (token c.Keyword (codes "load") ∷ []) (token c.String (quoted_of path) ∷ symbols))

abbrev pub with_symbols : List Expr → Item → Item
with_symbols symbols (i.Block lines) = i.Block lines
with_symbols symbols (i.Stmt x) = i.Stmt (on_items k.Load (λ items. items ++ symbols) x)

-- Symbols go to the end of the first load from the path; without such a load a new one is made.
abbrev pub with_load : Bytes → List Expr → List Item → List Item
with_load path symbols items =
    if list_any (is_load_from path) items then on_first_that (is_load_from path) (with_symbols symbols) items
    else after_loads (load_made path symbols) items

-- Symbols are loaded from the path that are not loaded so yet.
abbrev pub new_load : Bytes → List Symbol → List Item → List Item
new_load path symbols items = with_load path (map symbol_made (new_symbols (is_loaded path items) symbols)) items
