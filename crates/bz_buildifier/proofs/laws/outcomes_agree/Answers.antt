use Rattle.bz_buildifier.proofs.FormatAgree.{outcomes_agree}
use Rattle.bz_buildifier.proofs.laws.outcomes_agree.Goals as goal

pub returns : goal.returns
returns c = outcomes_agree c.one_bzl_reading.ensures
