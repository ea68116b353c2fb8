use Rattle.bz_value.proofs.BuildValues.{build_values_proper}
use Rattle.bz_value.proofs.laws.build_values_are_proper.Goals as goal

pub returns : goal.returns
returns c = build_values_proper
