use Rattle.bz_attribute.proofs.Words.{◌++◌, ◌≡◌, attribute, drop, take, with_value}
use Rattle.bz_attribute.proofs.arguments.swap_first.Given as goal

abbrev pub invariant-loop-x : goal.invariant-loop-x
invariant-loop-x l = record {
  other : l.other ≡ l.fn.other;
  arguments : take l.x-index l.x-items ++ with_value l.fn.name l.fn.other (drop l.x-index l.x-items) ≡ with_value l.fn.name l.fn.other l.fn.arguments;
  value : attribute l.fn.name (drop l.x-index l.x-items) ≡ attribute l.fn.name l.fn.arguments;
}
