use Rattle.bz_journal.proofs.Stopped.{stopped_is_resumed}
use Rattle.bz_journal.proofs.laws.stopped_is_resumed.Goals as goal

pub returns : goal.returns
returns c = stopped_is_resumed
