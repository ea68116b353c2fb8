use Rattle.bz_command.proofs.MeantPlaces.{taken}
use Rattle.bz_command.proofs.targets.take_place.Goals as goal

pub returns-in-Some : goal.returns-in-Some
returns-in-Some c = taken c.args.at c.args.places.now c.in-Some.first.now c.in-Some.following.now c.in-Some.ensures.cases.0 c.if-first-at.true
