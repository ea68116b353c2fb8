use Rattle.std.proofs.Common.{◌∙◌, arith, sym}
use Rattle.bz_load.proofs.PlaceSteps.{last_load}
use Rattle.bz_load.proofs.readings.place_after_loads.Goals as goal

pub returns-then-is_load-clause-place : goal.returns-then-is_load-clause-place
returns-then-is_load-clause-place c =
    last_load c.args.other c.loop-place.place c.args.items.now c.index-items-place.result (omega (arith, c.loop-place-test.true)) c.loop-place.invariant.within c.index-items-place.is
    (sym c.is_load.ensures ∙ c.if-is_load.true) c.loop-place.invariant.left
