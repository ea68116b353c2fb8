use Rattle.bz_layout.proofs.Words.{◌↔◌, ◌≤◌, AreWithin, come_items, depth_items, drop}
use Rattle.bz_layout.proofs.depth.are_windows_within.Given as goal

abbrev pub invariant-loop-window : goal.invariant-loop-window
invariant-loop-window l =
    AreWithin (drop l.window-index l.windows) l.rest
    × ((depth_items (come_items (drop l.window-index l.windows) l.rest) ≤ l.depth) ↔ (depth_items (come_items l.windows l.items) ≤ l.depth))
