use Rattle.std.proofs.Common.{inr}
use Rattle.bz_buildozer.proofs.reading.is_enough.Goals as goal

pub returns-else-front-lt-FRONT : goal.returns-else-front-lt-FRONT
returns-else-front-lt-FRONT c is = inr (c.begins_no_journal.ensures is)
