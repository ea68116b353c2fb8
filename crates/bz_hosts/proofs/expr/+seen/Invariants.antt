use Rattle.bz_hosts.proofs.Words.{◌++◌, ◌-◌, ◌≡◌, all_in, drop, false, first_seen_gap, items_in, length, loose_in, map, row_exprs, seen}
use Rattle.bz_hosts.proofs.expr.+seen.Given as goal

abbrev pub invariant-row_of-loop-at : goal.invariant-row_of-loop-at
invariant-row_of-loop-at l = record {
  exprs : l.exprs.items ++ row_exprs l.binary l.operator l.newline (map seen (drop l.at l.parts)) ≡ row_exprs l.binary false false (map seen l.parts);
  loose : l.loose ++ loose_in (map seen (drop l.at l.parts)) ≡ l.fn.loose ++ loose_in (map seen l.parts);
}

abbrev pub invariant-seq_of-loop-above : goal.invariant-seq_of-loop-above
invariant-seq_of-loop-above l = record {
  items : l.items.items ++ (items_in l.above (map seen (drop l.at l.parts))).0 ≡ (items_in (all_in (first_seen_gap (map seen (drop l.from l.parts)))) (map seen (drop l.from l.parts))).0;
  end : (items_in l.above (map seen (drop l.at l.parts))).1 ≡ (items_in (all_in (first_seen_gap (map seen (drop l.from l.parts)))) (map seen (drop l.from l.parts))).1;
}

abbrev pub decreases-seq_of-loop-above : goal.decreases-seq_of-loop-above
decreases-seq_of-loop-above l = length l.parts - l.at
