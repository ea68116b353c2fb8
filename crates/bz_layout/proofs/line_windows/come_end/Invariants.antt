use Rattle.bz_layout.proofs.Words.{◌+◌, ◌-◌, ◌≡◌, ◌≤◌, AreWithin, come_end, drop, length}
use Rattle.bz_layout.proofs.line_windows.come_end.Given as goal

abbrev pub invariant-loop-window : goal.invariant-loop-window
invariant-loop-window l =
    AreWithin (drop l.window-index l.windows) l.rest
    × (length l.rest ≤ length l.items)
    × ((length l.items - length l.rest) + come_end (drop l.window-index l.windows) ≡ come_end l.windows)
