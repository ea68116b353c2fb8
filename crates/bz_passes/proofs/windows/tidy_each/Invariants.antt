use Rattle.bz_passes.proofs.Words.{drop, tidied_over}
use Rattle.bz_passes.proofs.Joining.{AreOnTheWay}
use Rattle.bz_passes.proofs.windows.tidy_each.Given as goal

abbrev pub invariant-loop-window : goal.invariant-loop-window
invariant-loop-window l = AreOnTheWay (tidied_over l.fn.windows l.fn.items) (drop l.window-index l.windows) l.start l.items
