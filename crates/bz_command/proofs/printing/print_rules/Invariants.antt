use Rattle.bz_command.proofs.Words.{[], ◌≡◌, Ascend, before_rest, drop, Item as i, length, Ok}
use Rattle.bz_command.proofs.MeantPlaces.{printed_at}
use Rattle.bz_command.proofs.printing.print_rules.Given as goal

-- what is printed of all places, by what is printed so far and of those that are left
abbrev pub invariant-loop-at : goal.invariant-loop-at
invariant-loop-at l = record {
  printed :
      printed_at l.work.command.now l.work.current.now (i.Block []) l.work.lines.now 0 l.places l.items
      ≡ before_rest (Ok l.all.items) (printed_at l.work.command.now l.work.current.now (i.Block []) l.left l.past (drop l.at-index l.places) l.items);
  order : Ascend l.past (length l.items) (drop l.at-index l.places);
}
