use Rattle.bz_layout.proofs.Words.{◌+◌, ◌≡◌, AreWithin, drop, old_lines}
use Rattle.bz_layout.proofs.line_windows.old_lines.Given as goal

abbrev pub invariant-loop-window : goal.invariant-loop-window
invariant-loop-window l = AreWithin (drop l.window-index l.windows) l.rest × (l.count + old_lines (drop l.window-index l.windows) l.rest ≡ old_lines l.windows l.items)
