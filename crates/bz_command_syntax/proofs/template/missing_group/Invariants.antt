use Rattle.bz_command_syntax.proofs.Imported.{◌≡◌, length, missing_after}
use Rattle.bz_command_syntax.proofs.template.missing_group.Given as goal

abbrev pub invariant-loop-byte : goal.invariant-loop-byte
invariant-loop-byte l = missing_after l.fn.names l.left 0 ≡ missing_after l.fn.names l.fn.template 0

abbrev pub decreases-loop-byte : goal.decreases-loop-byte
decreases-loop-byte l = length l.left
