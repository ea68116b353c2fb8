use Rattle.bz_journal.proofs.Words.{◌++◌, ◌≡◌, drop, map, moved, moved_from, take}
use Rattle.bz_journal.proofs.moving.move_from.Given as goal

abbrev pub invariant-loop-at : goal.invariant-loop-at
invariant-loop-at l = take l.at l.lines ++ map (moved l.gone l.come) (drop l.at l.lines) ≡ moved_from l.from l.gone l.come l.fn.lines
