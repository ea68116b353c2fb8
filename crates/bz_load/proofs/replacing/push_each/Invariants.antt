use Rattle.bz_load.proofs.Words.{◌++◌, ◌≡◌, ◌≤◌, flat_map, into_iter_items, IsGrown, Item, length, List, without_symbol}
use Rattle.bz_load.proofs.replacing.push_each.Given as goal

abbrev pub invariant-loop-item : goal.invariant-loop-item
invariant-loop-item l = record {
  left : l.left.items ++ flat_map (without_symbol l.symbol) (into_iter_items l.item-iterator) ≡ l.fn.left.items ++ flat_map (without_symbol l.symbol) l.fn.items.items;
  grown : (before rest : List Item) → IsGrown l.fn.growing before (l.fn.left.items ++ (l.fn.items.items ++ rest)) → IsGrown l.growing before (l.left.items ++ (into_iter_items l.item-iterator ++ rest));
  past : l.growing.past ≤ length l.left.items;
}
