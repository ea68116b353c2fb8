use Rattle.bz_edit.specs.Trails.{IsTree}
use Rattle.bz_edit.proofs.Turn.{IsOver}
use Rattle.bz_edit.proofs.crossing.cross_each.Given as goal

abbrev pub invariant-loop-i : goal.invariant-loop-i
invariant-loop-i l = IsOver l.fn.root l.fn.steps l.i l.root l.steps × IsTree l.root
