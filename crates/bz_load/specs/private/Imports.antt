-- What the code tests of an argument and of an item, and what it does to the arguments of a call.
use Rattle.std.specs.Prelude.{◌≡◌, ◌<◌, ℕ, Bool, true, false, List, Option, MatchOption, drop, get_or, length, suc}
use Rattle.std.specs.List.{filter, list_any}
use Rattle.bz_load.specs.Words.{Bytes, Expr, Item}
use Rattle.bz_load.specs.declared.usages.Side.{Side}
use Rattle.bz_load.specs.declared.usages.Side.TheVariants as s
use Rattle.bz_load.specs.declared.usages.Change.{Change}
use Rattle.bz_load.specs.declared.usages.Change.TheVariants as ch
use Rattle.bz_load.specs.declared.usages.Sought.{Sought}
use Rattle.bz_load.specs.declared.usages.Sought.TheVariants as o
use Rattle.bz_load.specs.Usages.{argument_stays, imports_as, imports_repo, is_statement_of, is_use_of, with_import}
use Rattle.bz_load.specs.private.Known.{symbol_of_key}

abbrev pub is_side : Side → Expr → Bool
is_side (s.To own) = imports_as own.now
is_side (s.From repo) = imports_repo repo.now

abbrev pub changed_imports : Change → List Expr → List Expr
changed_imports (ch.Put word) = with_import (symbol_of_key word)
changed_imports (ch.Keep repos) = filter (argument_stays repos.now)

abbrev pub is_sought_import : Sought → Bytes → Item → Bool
is_sought_import o.Use = is_use_of
is_sought_import o.Statement = is_statement_of

-- where the last element that passes is
pub record IsLastAt {X : Type 0} (test : X → Bool) (xs : List X) (at : ℕ) : Type 0 where
  pub within : at < length xs
  pub passes : (d : X) → test (get_or xs at d) ≡ true
  pub others : list_any test (drop (suc at) xs) ≡ false

abbrev pub IsLast : {X : Type 0} → (X → Bool) → List X → Option ℕ → Type 0
IsLast test xs found = MatchOption found (list_any test xs ≡ false) (IsLastAt test xs)
