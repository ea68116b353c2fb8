-- What private functions leave: the arguments of a rule or a refusal, and a map of the keys of entries.
use Rattle.std.specs.Prelude.{◌≡◌, ◌⊎◌, ℕ, List, Vec, Option, Result, Ok, Err, IfErr, OnOk}
use Rattle.std.specs.List.{position_from}
use Rattle.std.specs.Ordering.{nat_cmp}
use Rattle.std.specs.Cmp.Lexicographic.{slice_cmp}
use Rattle.std.specs.BTreeMap as tree
use Rattle.std.specs.BTreeMap.{BTreeMap}
use Rattle.std.specs.declared.alloc.Global.{Global}
use Rattle.bz_change.specs.Words.{Expr, Refusal, Bytes, Arguments}
use Rattle.bz_value.specs.declared.refusal.Refusal.TheVariants.{Memory}
use Rattle.bz_change.specs.Dicts.{has_key}

-- What a call leaves is what the definition makes, or its refusal, memory aside.
pub record IsOutcome (result : Result Unit Refusal) (new : List Expr) (made : Arguments) : Type 0 where
  pub ok : OnOk result (made ≡ Ok new)
  pub err : IfErr result (λ refusal. (made ≡ Err refusal) ⊎ (refusal ≡ Memory))

-- what the map has at a key
abbrev pub place_at : BTreeMap (Vec ℕ Global) ℕ → Bytes → Option ℕ
place_at places key = tree.get_by (λ (text : Vec ℕ Global). slice_cmp nat_cmp key text.items) places

-- The map has each key of these entries, at the place of its first entry, and no other key.
abbrev pub AreIndexed : BTreeMap (Vec ℕ Global) ℕ → List Expr → Type 0
AreIndexed places items = (key : Bytes) → place_at places key ≡ position_from (has_key key) 0 items
