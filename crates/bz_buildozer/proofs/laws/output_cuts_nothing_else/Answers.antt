use Rattle.bz_buildozer.proofs.ExactReads.{output_alone}
use Rattle.bz_buildozer.proofs.laws.output_cuts_nothing_else.Goals as goal

pub returns : goal.returns
returns c = output_alone
