-- What was looked up in a file before a command.
use Rattle.std.specs.Prelude.{◌≡◌, ◌+◌, ◌*◌, ◌%◌, ℕ, List, IfSome, map}
use Rattle.std.specs.List.{fold}
use Rattle.std.specs.Option.{option_map_or}
use Rattle.bz_command.specs.Words.{Bytes, Item, IsIndexOf, AreListed, held_name}
use Rattle.bz_command.specs.declared.running.Known.{Known}

-- a number of a name, which is another one for most other names; and that of the name of an item, 0 where it has none
abbrev pub name_hash : Bytes → ℕ
name_hash name = fold (λ hash byte. (hash * 257 + byte) % 4294967291) 0 name

abbrev pub item_hash : Item → ℕ
item_hash item = option_map_or name_hash (held_name item) 0

-- what there is of it is that of these items
pub record IsKnownOf (known : Known) (items : List Item) : Type 0 where
  pub names : IfSome known.names (λ index. IsIndexOf index.now items)
  pub hashes : IfSome known.hashes (λ hashes. hashes.now ≡ map item_hash items)
  pub paths : IfSome known.paths (λ loaded. AreListed loaded.now items)
