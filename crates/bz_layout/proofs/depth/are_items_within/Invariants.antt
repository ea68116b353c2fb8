use Rattle.bz_layout.proofs.Words.{◌↔◌, ◌≤◌, depth_items, drop}
use Rattle.bz_layout.proofs.depth.are_items_within.Given as goal

abbrev pub invariant-loop-item : goal.invariant-loop-item
invariant-loop-item l = (depth_items (drop l.item-index l.items) ≤ l.depth) ↔ (depth_items l.items ≤ l.depth)
