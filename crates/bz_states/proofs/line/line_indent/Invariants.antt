use Rattle.bz_states.proofs.Words.{◌+◌, ◌<◌, ◌^◌, ◌≤◌, LeavesTo, left, length, open_brackets}
use Rattle.bz_states.proofs.line.line_indent.Given as goal

abbrev pub invariant-leaves : goal.invariant-leaves
invariant-leaves l = record { leaves : LeavesTo l.text l.place l.rest; within : length l.rest ≤ length l.text; brackets : open_brackets l.place + length l.rest < 2 ^ 64 }

abbrev pub decreases-leaves : goal.decreases-leaves
decreases-leaves l = left l.place l.rest
