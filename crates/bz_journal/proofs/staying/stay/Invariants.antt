use Rattle.bz_journal.proofs.PassedWindows.{IsPassed}
use Rattle.bz_journal.proofs.staying.stay.Given as goal

abbrev pub invariant-loop-window : goal.invariant-loop-window
invariant-loop-window l = IsPassed l.windows l.parts l.window-index l.old l.new
