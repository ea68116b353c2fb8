use Rattle.bz_hosts.proofs.Words.{◌*◌, ◌++◌, ◌+◌, ◌-◌, ◌≡◌, all_in, drop, false, first_seen_gap, items_in, length, loose_in, map, row_exprs, seen}
use Rattle.bz_hosts.proofs.moved.+moved.Given as goal

abbrev pub decreases-push_form_moved : goal.decreases-push_form_moved
decreases-push_form_moved l = 3 * l.depth

abbrev pub decreases-push_moved : goal.decreases-push_moved
decreases-push_moved l = 3 * l.depth + 1

abbrev pub decreases-row_moved : goal.decreases-row_moved
decreases-row_moved l = 3 * l.depth + 2

abbrev pub decreases-seq_moved : goal.decreases-seq_moved
decreases-seq_moved l = 3 * l.depth + 2

abbrev pub invariant-row_moved-loop-at : goal.invariant-row_moved-loop-at
invariant-row_moved-loop-at l = record {
  exprs : l.exprs.items ++ row_exprs l.binary l.operator l.newline (map seen (drop l.at l.left.items)) ≡ row_exprs l.binary false false (map seen l.fn.parts);
  loose : l.loose ++ loose_in (map seen (drop l.at l.left.items)) ≡ l.fn.loose ++ loose_in (map seen l.fn.parts);
}

abbrev pub decreases-row_moved-loop-at : goal.decreases-row_moved-loop-at
decreases-row_moved-loop-at l = length l.left.items - l.at

abbrev pub invariant-seq_moved-loop-left : goal.invariant-seq_moved-loop-left
invariant-seq_moved-loop-left l = record {
  items : l.items.items ++ (items_in l.above (map seen (drop l.at l.left.items))).0 ≡ (items_in (all_in (first_seen_gap (map seen (drop l.from l.fn.parts)))) (map seen (drop l.from l.fn.parts))).0;
  end : (items_in l.above (map seen (drop l.at l.left.items))).1 ≡ (items_in (all_in (first_seen_gap (map seen (drop l.from l.fn.parts)))) (map seen (drop l.from l.fn.parts))).1;
}

abbrev pub decreases-seq_moved-loop-left : goal.decreases-seq_moved-loop-left
decreases-seq_moved-loop-left l = length l.left.items - l.at
