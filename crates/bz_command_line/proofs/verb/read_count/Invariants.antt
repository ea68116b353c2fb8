use Rattle.std.proofs.Common.{◌<◌, ◌^◌, length}
use Rattle.bz_command_line.proofs.Counts.{Counted}
use Rattle.bz_command_line.proofs.verb.read_count.Given as goal

abbrev pub invariant-loop-byte : goal.invariant-loop-byte
invariant-loop-byte l = record { counted : Counted l.word l.count l.left; fits : l.count < 2 ^ 32 }

abbrev pub decreases-loop-byte : goal.decreases-loop-byte
decreases-loop-byte l = length l.left
