use Rattle.bz_command.proofs.ProperEffects.{effects_stay_proper}
use Rattle.bz_command.proofs.laws.effects_stay_proper.Goals as goal

pub returns : goal.returns
returns c = effects_stay_proper
