-- Comments of what goes, as the code gathers them, and what it looks at before it changes anything.
use Rattle.std.specs.Prelude.{◌≡◌, ◌&&◌, Bool, false, List}
use Rattle.std.specs.List.{list_any}
use Rattle.bz_load.specs.Words.{Bytes, HostComments, Item, Symbol}
use Rattle.bz_load.specs.Loads.{is_load_from, loads_symbol, symbols_of}
use Rattle.bz_load.specs.Paths.{has_local}
use Rattle.bz_load.specs.declared.gathering.Gathered.{Gathered}

abbrev pub gathered_comments : Gathered → HostComments
gathered_comments gone = record { before = gone.before; suffix = gone.suffix }

-- a load from the path that loads the symbol
abbrev pub has_symbol : Bytes → Symbol → Item → Bool
has_symbol path symbol item = is_load_from path item && list_any (loads_symbol symbol) (symbols_of item)

-- no load is from the path, and none has the local name
abbrev pub IsUnknown : Bytes → Symbol → List Item → Type 0
IsUnknown path symbol items = (list_any (is_load_from path) items ≡ false) × (list_any (has_local symbol.to) items ≡ false)
