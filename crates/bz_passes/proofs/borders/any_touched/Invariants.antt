use Rattle.std.proofs.Common.{drop}
use Rattle.bz_passes.proofs.Joining.{AreSeen}
use Rattle.bz_passes.proofs.borders.any_touched.Given as goal

abbrev pub invariant-loop-window : goal.invariant-loop-window
invariant-loop-window l = AreSeen l.fn.windows l.fn.items (drop l.window-index l.windows) l.left
