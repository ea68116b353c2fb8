use Rattle.bz_journal_format.proofs.Formats.{counted_exact}
use Rattle.bz_journal_format.proofs.mark_laws.counted_exact.Goals as goal

pub returns : goal.returns
returns c = counted_exact
