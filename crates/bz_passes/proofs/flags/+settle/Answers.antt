use Rattle.bz_layout.specs.Flags.{with_flags}
use Rattle.bz_passes.proofs.EachChanged.{each_turn}
use Rattle.bz_passes.proofs.flags.+settle.Goals as goal

pub settle_each-loop-x-preserved : goal.settle_each-loop-x-preserved
settle_each-loop-x-preserved t c = each_turn with_flags c.loop-x.x-items c.as_mut_slice-x-items.result.now _ c.loop-x.x-index _ _ c.loop-x-test.true c.settle.ensures c.loop-x.invariant
