use Rattle.bz_load.proofs.Words.{[], ◌≡◌, AllByRecursion, AreOver, IsLoadedAlone, last_of_each, length, replace_load}
use Rattle.bz_load.proofs.replacing.replace_each.Given as goal

-- what is made of the items as they are, by the symbols that are left; nothing is made of items that have all
abbrev pub invariant-loop-symbol : goal.invariant-loop-symbol
invariant-loop-symbol l = record {
  items : replace_load l.path l.left l.made.items ≡ replace_load l.path l.symbols l.fn.items;
  windows : AreOver l.made.windows l.fn.items l.made.items;
  settled : AllByRecursion (IsLoadedAlone l.path l.fn.items) (last_of_each l.symbols) → (l.made.windows ≡ []) × AllByRecursion (IsLoadedAlone l.path l.fn.items) (last_of_each l.left);
}

abbrev pub decreases-loop-symbol : goal.decreases-loop-symbol
decreases-loop-symbol l = length l.left
