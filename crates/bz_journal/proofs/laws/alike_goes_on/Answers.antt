use Rattle.bz_journal.proofs.Alike.{alike_acts, alike_goes_on}
use Rattle.bz_journal.proofs.laws.alike_goes_on.Goals as goal

pub returns-clause-act : goal.returns-clause-act
returns-clause-act c = alike_acts

pub returns-clause-run : goal.returns-clause-run
returns-clause-run c = alike_goes_on
