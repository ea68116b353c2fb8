use Rattle.std.proofs.Common.{arith}
use Rattle.bz_load.proofs.KnownSteps.{all_used}
use Rattle.bz_load.proofs.fixing.used_names.Goals as goal

pub returns : goal.returns
returns c = all_used c.loop-item.names c.args.items.now c.loop-item.item-index (omega (arith, c.loop-item-test.false)) c.loop-item.invariant
