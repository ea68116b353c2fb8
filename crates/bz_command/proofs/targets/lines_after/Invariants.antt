use Rattle.bz_command.proofs.Words.{◌-◌, ◌≡◌, drop, lines_after_items, take}
use Rattle.bz_command.proofs.targets.lines_after.Given as goal

abbrev pub invariant-loop-item : goal.invariant-loop-item
invariant-loop-item l = lines_after_items l.left (drop l.item-index l.between) ≡ lines_after_items l.fn.lines (take (l.fn.to - l.fn.from) (drop l.fn.from l.fn.items))
