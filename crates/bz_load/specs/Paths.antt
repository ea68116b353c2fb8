-- Paths from which a file loads, and the local names of what it loads: more may be listed, so they outlive a change that takes a load out.
use Rattle.std.specs.Prelude.{◌≡◌, ◌&&◌, ◌||◌, Bool, false, List, bytes_eq}
use Rattle.std.specs.List.{list_any}
use Rattle.bz_load.specs.Words.{Bytes, Item, local_name}
use Rattle.bz_load.specs.Loads.{is_load_from, is_load_item, symbols_of}

pub record Paths : Type 0 where
  pub texts : List Bytes

abbrev pub knows_text : Paths → Bytes → Bool
knows_text paths text = list_any (bytes_eq text) paths.texts

-- a load that has a symbol of this local name
abbrev pub has_local : Bytes → Item → Bool
has_local text item = is_load_item item && list_any (λ x. bytes_eq text (local_name x)) (symbols_of item)

-- a text that isn't listed is the path of none of the items, and no local name of one
abbrev pub AreListed : Paths → List Item → Type 0
AreListed paths items = (text : Bytes) → knows_text paths text ≡ false → list_any (λ item. is_load_from text item || has_local text item) items ≡ false
