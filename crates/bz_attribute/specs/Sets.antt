-- A set of texts, seen as a list.
use Rattle.std.specs.Prelude.{ℕ, List, Vec, map}
use Rattle.std.specs.BTreeSet.{BTreeSet}
use Rattle.std.specs.declared.alloc.Global.{Global}
use Rattle.bz_items.specs.Characters.{Bytes}

abbrev pub texts_of : BTreeSet (Vec ℕ Global) → List Bytes
texts_of set = map (λ (text : Vec ℕ Global). text.items) set.keys
