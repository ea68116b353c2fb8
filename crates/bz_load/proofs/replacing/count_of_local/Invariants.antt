use Rattle.bz_load.proofs.Words.{◌+◌, ◌≡◌, ◌≤◌, drop, filter, is_local, length}
use Rattle.bz_load.proofs.replacing.count_of_local.Given as goal

abbrev pub invariant-loop-x : goal.invariant-loop-x
invariant-loop-x l = record {
  counted : l.count + length (filter (is_local l.symbol) (drop l.x-index l.symbols)) ≡ length (filter (is_local l.symbol) l.symbols);
  within : l.count ≤ l.x-index;
}
