use Rattle.bz_journal_format.proofs.Counting.{number_exact}
use Rattle.bz_journal_format.proofs.mark_laws.numbers_exact.Goals as goal

pub returns : goal.returns
returns c = number_exact
