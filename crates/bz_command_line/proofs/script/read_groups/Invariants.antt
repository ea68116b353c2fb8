use Rattle.bz_command_line.proofs.Words.{◌≡◌, All, HasPath, map, Ok, operand_groups, requested_in, take}
use Rattle.bz_command_line.proofs.InTurn.{texts_in}
use Rattle.bz_command_line.proofs.script.read_groups.Given as goal

abbrev pub invariant-loop-at : goal.invariant-loop-at
invariant-loop-at l = record {
  answered : operand_groups l.profile 1 (texts_in (take l.at l.lines)) ≡ Ok (map requested_in l.groups.items);
  paths : All (λ requested. All HasPath requested.targets.items) l.groups.items;
}
