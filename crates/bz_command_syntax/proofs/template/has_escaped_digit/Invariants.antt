use Rattle.bz_command_syntax.proofs.Imported.{◌≡◌, has_escaped_digit, length}
use Rattle.bz_command_syntax.proofs.template.has_escaped_digit.Given as goal

abbrev pub invariant-loop-byte : goal.invariant-loop-byte
invariant-loop-byte l = has_escaped_digit l.left ≡ has_escaped_digit l.fn.template

abbrev pub decreases-loop-byte : goal.decreases-loop-byte
decreases-loop-byte l = length l.left
