use Rattle.std.proofs.Common.{arith, sym}
use Rattle.bz_passes.proofs.Joining.{load_before}
use Rattle.bz_passes.proofs.borders.start_of_run.Goals as goal

pub loop-start-preserved : goal.loop-start-preserved
loop-start-preserved c = (
  omega (arith, c.loop-start.invariant.0),
  load_before c.loop-start.start c.args.items.now c.loop-start.invariant.0 (sym c.loop-start-test.ensures.load) c.loop-start.invariant.1,
)
