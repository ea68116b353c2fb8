-- Windows of what a command changed.
use Rattle.std.specs.Prelude.{◌≡◌, ◌↔◌, IsTrue, List, []}
use Rattle.bz_command.specs.Words.{Item, AreOver, HaveSameNames}
use Rattle.bz_command.specs.declared.ruling.Changed.{Changed}

-- where the items that a command makes of others differ from these, and whether their names are known to be the same
pub record IsCompared (before : List Item) (changed : Changed) : Type 0 where
  pub windows : AreOver changed.windows before changed.items
  pub same : (changed.windows ≡ []) ↔ (changed.items ≡ before)
  pub names : IsTrue changed.same_names → HaveSameNames before changed.items
