use Rattle.std.proofs.Common.{refl}
use Rattle.bz_layout.proofs.LineWindows.{depth_turn, both_less, deeper_first}
use Rattle.bz_layout.proofs.depth.are_windows_within.Goals as goal

pub returns-then-not-are_items_within : goal.returns-then-not-are_items_within
returns-then-not-are_items_within c =
    deeper_first _ _ _ _ _ (depth_turn c.args.windows.now c.loop-window.window-index _ c.loop-window.rest.now _ _ c.loop-window-test.true c.loop-window.invariant.0 c.split_window.ensures.come refl).1
    c.are_items_within.ensures c.if-not-are_items_within.true c.loop-window.invariant.1

pub loop-window-preserved : goal.loop-window-preserved
loop-window-preserved c =
    let turn = depth_turn c.args.windows.now c.loop-window.window-index _ c.loop-window.rest.now _ _ c.loop-window-test.true c.loop-window.invariant.0 c.split_window.ensures.come c.split_window.ensures.past in
    (turn.0, both_less _ _ _ _ _ turn.1 c.are_items_within.ensures c.if-not-are_items_within.false c.loop-window.invariant.1)
