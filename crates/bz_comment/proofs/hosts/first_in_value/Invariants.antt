use Rattle.bz_comment.proofs.Words.{◌≡◌, drop, find, flat_map, is_sought, items_at, selects_of}
use Rattle.bz_comment.proofs.hosts.first_in_value.Given as goal

-- what is found among the operands that are left is what is found among all
abbrev pub invariant-loop-x : goal.invariant-loop-x
invariant-loop-x l = find (is_sought l.sought) (flat_map (items_at (selects_of l.sought.host.now)) l.x-items)
    ≡ find (is_sought l.sought) (flat_map (items_at (selects_of l.sought.host.now)) (drop l.x-index l.x-items))
