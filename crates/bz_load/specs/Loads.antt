-- The loads of a file, and what they load.
use Rattle.std.specs.Prelude.{Bool, false, ◌&&◌, List, [], ◌∷◌, Option, None, bytes_eq, if◌then◌else◌, option_map, ℕ, suc, ◌+◌, true}
use Rattle.std.specs.List.{list_any, insert}
use Rattle.std.specs.Option.{option_map_or}
use Rattle.bz_grammar.specs.declared.kind.Kind.TheVariants as k
use Rattle.bz_load.specs.Words.{Expr, Item, Kind, Bytes, Symbol, is_text, has_kind, parts_of, items_of, text_of, body_of}
use Rattle.bz_value.specs.declared.value.Item.TheVariants as i

abbrev pub is_load_item : Item → Bool
is_load_item (i.Block lines) = false
is_load_item (i.Stmt x) = has_kind k.Load x

-- the path: the body of the first item, where that is a plain string
abbrev pub path_in : List Expr → Option Bytes
path_in [] = None
path_in (x ∷ xs) = body_of x

abbrev pub is_load_from : Bytes → Item → Bool
is_load_from path (i.Block lines) = false
is_load_from path (i.Stmt x) = has_kind k.Load x && is_text path (path_in (items_of x))

abbrev pub symbol_named : Bytes → Bytes → Symbol
symbol_named to from = record { to = to; from = from }

abbrev pub is_symbol : Symbol → Symbol → Bool
is_symbol symbol other = bytes_eq symbol.to other.to && bytes_eq symbol.from other.from

-- to = "from", where the string is plain
abbrev pub alias_in : List Expr → Option Symbol
alias_in (to ∷ equals ∷ from ∷ []) = option_map (symbol_named (text_of to)) (body_of from)
alias_in _ = None

-- both names: of to = "from" in a node of this kind, or of a plain string
abbrev pub both_names : Kind → Expr → Option Symbol
both_names kind x = if has_kind kind x then alias_in (parts_of x) else option_map (λ text. symbol_named text text) (body_of x)

-- the symbol that an item of a load loads: an alias, or a plain string
abbrev pub symbol_in : Expr → Option Symbol
symbol_in = both_names k.Alias

abbrev pub loads_symbol : Symbol → Expr → Bool
loads_symbol symbol x = option_map_or (is_symbol symbol) (symbol_in x) false

-- the items after the path
abbrev pub after_path : List Expr → List Expr
after_path [] = []
after_path (x ∷ xs) = xs

abbrev pub symbols_of : Item → List Expr
symbols_of (i.Block lines) = []
symbols_of (i.Stmt x) = after_path (items_of x)

-- one of the loads from the path loads it so
abbrev pub is_loaded : Bytes → List Item → Symbol → Bool
is_loaded path items symbol = list_any (λ item. is_load_from path item && list_any (loads_symbol symbol) (symbols_of item)) items

-- ---- places among the items of a file, each as the number of the items before it

abbrev pub is_block : Item → Bool
is_block (i.Block lines) = true
is_block (i.Stmt x) = false

-- after the comment blocks that a list begins with
abbrev pub leading_blocks : List Item → ℕ
leading_blocks [] = 0
leading_blocks (item ∷ items) = if is_block item then suc (leading_blocks items) else 0

-- After the last load; without one the other place. The items are those after this many that are passed.
abbrev pub loads_end : ℕ → ℕ → List Item → ℕ
loads_end other passed [] = other
loads_end other passed (item ∷ items) = loads_end (if is_load_item item then passed + 1 else other) (passed + 1) items

-- after the last load; where there is none, after the leading comment blocks
abbrev pub after_loads : Item → List Item → List Item
after_loads new items = insert items (loads_end (leading_blocks items) 0 items) new
