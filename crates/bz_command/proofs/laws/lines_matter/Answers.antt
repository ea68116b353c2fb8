use Rattle.bz_command.proofs.LinesMatter as law
use Rattle.bz_command.proofs.laws.lines_matter.Goals as goal

pub returns : goal.returns
returns c = law.lines_matter
