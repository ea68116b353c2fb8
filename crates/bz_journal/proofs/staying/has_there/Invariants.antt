use Rattle.std.proofs.Common.{◌≡◌, take}
use Rattle.bz_journal.proofs.staying.has_there.Given as goal

-- the parts so far are the same
abbrev pub invariant-loop-place : goal.invariant-loop-place
invariant-loop-place l = take l.place l.rest ≡ take l.place l.others
