use Rattle.bz_passes.proofs.Words.{◌+◌, arith, drop, drop_more, get_or, subst, tidied_over}
use Rattle.bz_passes.proofs.Joining.{AreOnTheWay, one_further}
use Rattle.bz_passes.proofs.windows.tidy_each.Goals as goal

pub loop-window-preserved : goal.loop-window-preserved
loop-window-preserved c =
    let whole = tidied_over c.args.windows.now c.args.items.now in
    let windows = c.args.windows.now in
    let at = c.loop-window in
    one_further whole (drop (at.window-index + 1) windows) (get_or windows at.window-index (record { from = 0; gone = 0; come = 0 })) at.start at.items c.tidy_items.new.items
    (subst (λ left. AreOnTheWay whole left at.start at.items) (drop_more windows at.window-index (record { from = 0; gone = 0; come = 0 }) (omega (arith, c.loop-window-test.true))) at.invariant)
    c.in_ok-tidy_items.ensures
