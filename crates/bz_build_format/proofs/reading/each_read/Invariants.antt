use Rattle.bz_build_format.proofs.Words.{length, text_with}
use Rattle.bz_build_format.proofs.Windowed.{AreBefore}
use Rattle.bz_build_format.proofs.reading.each_read.Given as goal

-- the windows so far are read
abbrev pub invariant-loop-window : goal.invariant-loop-window
invariant-loop-window l = AreBefore l.fn.parts (text_with l.fn.windows l.fn.parts) l.read l.kept l.left l.texts

abbrev pub decreases-loop-window : goal.decreases-loop-window
decreases-loop-window l = length l.texts
