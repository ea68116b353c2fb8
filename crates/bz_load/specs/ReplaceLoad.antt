-- Symbols that are loaded from a path, and from no other one. (Own profile of buildozer's `replace_load`.)
use Rattle.std.specs.Prelude.{ℕ, Bool, true, false, not, ◌&&◌, ◌||◌, List, [], ◌∷◌, ◌++◌, Option, None, Some, bytes_eq, drop, if◌then◌else◌, map, take}
use Rattle.std.specs.List.{flat_map, list_all, list_any}
use Rattle.std.specs.Option.{option_map_or}
use Rattle.bz_grammar.specs.declared.kind.Kind.TheVariants as k
use Rattle.bz_load.specs.Words.{Expr, Item, Bytes, HostComments, Symbol, comments_of, is_empty, items_of, local_name, no_comments, on_first_that, on_items, on_rest, with_comments}
use Rattle.bz_value.specs.declared.value.Item.TheVariants as i
use Rattle.bz_load.specs.Loads.{after_path, is_load_from, is_load_item, is_loaded, leading_blocks, loads_end, loads_symbol, symbols_of}
use Rattle.bz_load.specs.NewLoad.{load_made, symbol_made}
use Rattle.bz_load.specs.Fixes.{end_of}

-- ---- comments that come to another host

-- those above, then the suffix
abbrev pub own_lines : HostComments → List Bytes
own_lines comments = comments.before ++ option_map_or (λ suffix. suffix ∷ []) comments.suffix []

-- A host takes the comments of another one, below its own. Of two suffixes the other one goes above.
abbrev pub joined_beside : Option Bytes → HostComments → HostComments → HostComments
joined_beside None own other = record { before = own.before ++ other.before; suffix = other.suffix }
joined_beside (Some suffix) own other = record { before = own.before ++ own_lines other; suffix = Some suffix }

abbrev pub comments_joined : HostComments → HostComments → HostComments
comments_joined own other = joined_beside own.suffix own other

abbrev pub all_comments_joined : HostComments → List HostComments → HostComments
all_comments_joined own [] = own
all_comments_joined own (other ∷ others) = all_comments_joined (comments_joined own other) others

abbrev pub with_joined : HostComments → Expr → Expr
with_joined gone x = with_comments x (comments_joined (comments_of x) gone)

-- ---- the symbols that go from a load

-- the load with its symbols changed; any other item stays
abbrev pub on_symbols : (List Expr → List Expr) → Item → Item
on_symbols change (i.Block lines) = i.Block lines
on_symbols change (i.Stmt x) = i.Stmt (on_items k.Load (on_rest change) x)

abbrev pub is_local : Symbol → Expr → Bool
is_local symbol x = bytes_eq symbol.to (local_name x)

-- those of the symbol's local name; in the load that is to have it the first that loads it stays, until that is found
abbrev pub goes : Symbol → Bool → Expr → Bool
goes symbol found x = is_local symbol x && (found || not (loads_symbol symbol x))

abbrev pub left_symbols : Symbol → Bool → List Expr → List Expr
left_symbols symbol found [] = []
left_symbols symbol found (x ∷ xs) =
    if goes symbol found x then left_symbols symbol (found || loads_symbol symbol x) xs else x ∷ left_symbols symbol (found || loads_symbol symbol x) xs

abbrev pub gone_comments : Symbol → Bool → List Expr → List HostComments
gone_comments symbol found [] = []
gone_comments symbol found (x ∷ xs) =
    if goes symbol found x then comments_of x ∷ gone_comments symbol (found || loads_symbol symbol x) xs
    else gone_comments symbol (found || loads_symbol symbol x) xs

abbrev pub gone_from : Symbol → Bool → Item → List HostComments
gone_from symbol found item = if is_load_item item then gone_comments symbol found (symbols_of item) else []

-- ---- loads that lose their last symbol

abbrev pub is_lost : Symbol → Item → Bool
is_lost symbol item = is_load_item item && (not (is_empty (symbols_of item)) && list_all (is_local symbol) (symbols_of item))

abbrev pub path_lines : List Expr → List Bytes
path_lines [] = []
path_lines (x ∷ xs) = own_lines (comments_of x)

abbrev pub above : List Bytes → HostComments
above lines = record { before = lines; suffix = None }

abbrev pub suffix_alone : Option Bytes → HostComments
suffix_alone suffix = record { before = []; suffix = suffix }

-- those above each of these
abbrev pub comments_above : List Expr → List Bytes
comments_above xs = flat_map (λ x. (comments_of x).before) xs

abbrev pub suffix_host : Expr → HostComments
suffix_host x = suffix_alone (comments_of x).suffix

-- those above the load, the path's, those above the symbols and those at the load's end; then the suffixes of the symbols, and that of the load
abbrev pub all_comments : Item → List HostComments
all_comments (i.Block lines) = []
all_comments (i.Stmt x) =
    above ((comments_of x).before ++ (path_lines (items_of x) ++ (comments_above (after_path (items_of x)) ++ end_of x))) ∷ map suffix_host (after_path (items_of x)) ++ suffix_alone (comments_of x).suffix ∷ []

abbrev pub without_symbol : Symbol → Item → List Item
without_symbol symbol item = if is_lost symbol item then [] else on_symbols (left_symbols symbol true) item ∷ []

abbrev pub comments_without : Symbol → Item → List HostComments
comments_without symbol item = if is_lost symbol item then all_comments item else gone_from symbol true item

-- ---- the load that is to have the symbol

-- the item that loads it, or a new one at the end, takes these comments
abbrev pub put_symbol : Symbol → HostComments → List Expr → List Expr
put_symbol symbol gone symbols =
    if list_any (loads_symbol symbol) symbols then on_first_that (loads_symbol symbol) (with_joined gone) symbols
    else symbols ++ with_joined gone (symbol_made symbol) ∷ []

-- the comments of all that goes, in the order of the file
abbrev pub comments_around : Symbol → List Item → Item → List Item → List HostComments
comments_around symbol front load back =
    flat_map (comments_without symbol) front ++ (gone_from symbol false load ++ flat_map (comments_without symbol) back)

-- the load with the symbol, and the items before it and after it without
abbrev pub replaced_around : Symbol → List Item → Item → List Item → List Item
replaced_around symbol front load back =
    flat_map (without_symbol symbol) front
    ++ on_symbols (put_symbol symbol (all_comments_joined no_comments (comments_around symbol front load back))) (on_symbols (left_symbols symbol false) load)
    ∷ flat_map (without_symbol symbol) back

-- the first item that passes a test, with what is before it and after it
pub record ItemCut : Type 0 where
  pub front : List Item
  pub item : Item
  pub back : List Item

abbrev pub further : Item → Option ItemCut → Option ItemCut
further item None = None
further item (Some cut) = Some (record { front = item ∷ cut.front; item = cut.item; back = cut.back })

abbrev pub cut_of_first : (Item → Bool) → List Item → Option ItemCut
cut_of_first test [] = None
cut_of_first test (item ∷ items) = if test item then Some (record { front = []; item = item; back = items }) else further item (cut_of_first test items)

-- the loads from the path; where one of them loads the symbol, those that do
abbrev pub may_have : Bytes → Symbol → List Item → Item → Bool
may_have path symbol items item = is_load_from path item && (not (is_loaded path items symbol) || list_any (loads_symbol symbol) (symbols_of item))

-- Without a load from the path a new one is put in, where a new load goes in the file as it is.
abbrev pub new_around : Bytes → Symbol → ℕ → List Item → List Item
new_around path symbol place items = replaced_around symbol (take place items) (load_made path []) (drop place items)

abbrev pub replace_symbol : Bytes → List Item → Symbol → List Item
replace_symbol path items symbol =
    option_map_or (λ cut. replaced_around symbol cut.front cut.item cut.back) (cut_of_first (may_have path symbol items) items)
    (new_around path symbol (loads_end (leading_blocks items) 0 items) items)

-- ---- all symbols, one after the other; of those with one local name the last

abbrev pub last_of_each : List Symbol → List Symbol
last_of_each [] = []
last_of_each (symbol ∷ symbols) =
    if list_any (λ other. bytes_eq symbol.to other.to) symbols then last_of_each symbols else symbol ∷ last_of_each symbols

abbrev pub each_replaced : Bytes → List Symbol → List Item → List Item
each_replaced path [] items = items
each_replaced path (symbol ∷ symbols) items = each_replaced path symbols (replace_symbol path items symbol)

abbrev pub replace_load : Bytes → List Symbol → List Item → List Item
replace_load path symbols items = each_replaced path (last_of_each symbols) items
