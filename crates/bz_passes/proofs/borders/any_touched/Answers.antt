use Rattle.std.proofs.Common.{arith, sym, ◌∙◌}
use Rattle.bz_passes.proofs.Joining.{seen_more}
use Rattle.bz_passes.proofs.borders.any_touched.Goals as goal

pub loop-window-preserved : goal.loop-window-preserved
loop-window-preserved c =
    seen_more c.args.windows.now c.args.windows.now c.args.items.now c.loop-window.left.now _ c.loop-window.window-index (record { from = 0; gone = 0; come = 0 }) (omega (arith, c.loop-window-test.true))
    c.loop-window.invariant (sym c.touches.ensures ∙ c.if-touches.false) (sym c.touches-else-touches.ensures ∙ c.if-touches-2.false) c.split_at.ensures.back
