use Rattle.bz_comment.proofs.Words.{◌≡◌, drop, find, flat_map, is_sought, listed}
use Rattle.bz_comment.proofs.hosts.first_in_lists.Given as goal

-- what is found in the lists that are left is what is found in all
abbrev pub invariant-loop-x : goal.invariant-loop-x
invariant-loop-x l = find (is_sought l.sought) (flat_map listed l.operands) ≡ find (is_sought l.sought) (flat_map listed (drop l.x-index l.operands))
