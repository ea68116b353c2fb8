use Rattle.bz_hosts.proofs.Words.{[], ◌++◌, ◌+◌, ◌-◌, ◌<◌, ◌≡◌, ◌≤◌, drop, indented_lines_before, items_below, items_from, left_below, length, lines_at_end, map, stated, true}
use Rattle.bz_hosts.proofs.viewing.into_items.Given as goal

abbrev pub invariant-loop-parts : goal.invariant-loop-parts
invariant-loop-parts l = record {
  some : l.at < length l.parts.items;
  items : l.items ++ items_below l.above (drop l.at l.parts.items) ≡ items_from (indented_lines_before (map stated l.fn.parts) []) l.fn.parts;
  going : l.at + 1 < length l.parts.items → left_below l.above (drop l.at l.parts.items) ≡ lines_at_end (indented_lines_before (map stated l.fn.parts) []) l.fn.parts;
  ended : length l.parts.items ≤ l.at + 1 → l.spent ≡ true → lines_at_end (indented_lines_before (map stated l.fn.parts) []) l.fn.parts ≡ [];
}

abbrev pub decreases-loop-parts : goal.decreases-loop-parts
decreases-loop-parts l = length l.parts.items - l.at
