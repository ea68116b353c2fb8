-- What an index of names holds: the map of the code as names with places.
use Rattle.std.specs.Prelude.{◌≡◌, ℕ, Bool, List, [], ◌∷◌, ◌++◌, Option, Vec, if◌then◌else◌, map}
use Rattle.std.specs.Option.{option_and_then}
use Rattle.std.specs.declared.alloc.Global.{Global}
use Rattle.bz_value.specs.declared.value.Item.{Item}
use Rattle.bz_items.specs.Characters.{Bytes}
use Rattle.bz_rule.specs.Rules.{rule_of, name_of}
use Rattle.bz_rule.specs.Index.{places_of}

-- the name of an item, where it is a rule that has one: `has_name` checks whether it is this one
abbrev pub held_name : Item → Option Bytes
held_name item = option_and_then name_of (rule_of item)

-- the keys of the map are bytes, its values places
abbrev pub Entries : Type 0
Entries = List (Vec ℕ Global × Vec ℕ Global)

abbrev pub held : Entries → List (Bytes × List ℕ)
held entries = map {B = Bytes × List ℕ} (λ (entry : Vec ℕ Global × Vec ℕ Global). (entry.0.items, entry.1.items)) entries

-- one place more at the names that pass the test, and no other change
abbrev pub AddsPlace : (Bytes → Bool) → ℕ → Entries → Entries → Type 0
AddsPlace test at before after = (name : Bytes) → places_of name (held after) ≡ places_of name (held before) ++ (if test name then at ∷ [] else [])
