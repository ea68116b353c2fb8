use Rattle.bz_comment.proofs.Words.{◌≡◌, branch_items, drop, find, flat_map, is_sought}
use Rattle.bz_comment.proofs.hosts.first_in_branches.Given as goal

-- what is found in the branches that are left is what is found in all
abbrev pub invariant-loop-entry : goal.invariant-loop-entry
invariant-loop-entry l = find (is_sought l.sought) (flat_map branch_items l.entries) ≡ find (is_sought l.sought) (flat_map branch_items (drop l.entry-index l.entries))
