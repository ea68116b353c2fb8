use Rattle.std.proofs.Common.{◌∙◌, ap}
use Rattle.std.specs.Prelude.{not}
use Rattle.bz_command.proofs.MeantPlaces.{any_place}
use Rattle.bz_command.proofs.targets.is_any.Goals as goal

pub returns : goal.returns
returns c = λ at marks is. ap not c.is_empty.ensures ∙ any_place at marks c.args.places.now is
