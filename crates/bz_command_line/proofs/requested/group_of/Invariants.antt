use Rattle.bz_command_line.proofs.Words.{◌≡◌, All, HasPath, Ok, requested_in, requested_of, take}
use Rattle.bz_command_line.proofs.InTurn.{texts_in}
use Rattle.bz_command_line.proofs.requested.group_of.Given as goal

abbrev pub invariant-loop-operand : goal.invariant-loop-operand
invariant-loop-operand l = record {
  answered : requested_of l.profile (texts_in (take l.operand-index l.operands)) ≡ Ok (requested_in l.requested);
  paths : All HasPath l.requested.targets.items;
}
