use Rattle.bz_passes.specs.private.Repeats.{AreKept}
use Rattle.bz_passes.proofs.repeats.drop_repeats.Given as goal

abbrev pub invariant-loop-x : goal.invariant-loop-x
invariant-loop-x l = AreKept l.fn.items.items l.kept.items l.places.items l.x-iterator.rest.items
