use Rattle.bz_passes.specs.Passes.{quotes_in}
use Rattle.bz_passes.proofs.EachChanged.{each_turn}
use Rattle.bz_passes.proofs.quotes.+quote.Goals as goal

pub quote_each-loop-x-preserved : goal.quote_each-loop-x-preserved
quote_each-loop-x-preserved t c = each_turn quotes_in c.loop-x.x-items c.as_mut_slice-x-items.result.now _ c.loop-x.x-index _ _ c.loop-x-test.true c.in_ok-quote.ensures c.loop-x.invariant
