use Rattle.bz_load.proofs.Words.{◌≡◌, ◌≤◌, drop, false, is_sought_import, length, list_any}
use Rattle.bz_load.proofs.usages.last_sought.Given as goal

abbrev pub invariant-loop-end : goal.invariant-loop-end
invariant-loop-end l = record {
  none : list_any (is_sought_import l.sought l.variable) (drop l.end l.items) ≡ false;
  within : l.end ≤ length l.items;
}

abbrev pub decreases-loop-end : goal.decreases-loop-end
decreases-loop-end l = l.end
