use Rattle.bz_layout.proofs.Words.{◌≡◌, drop, old_count}
use Rattle.bz_layout.proofs.line_windows.old_count.Given as goal

abbrev pub invariant-loop-window : goal.invariant-loop-window
invariant-loop-window l = old_count (drop l.window-index l.windows) l.count ≡ old_count l.windows l.items
