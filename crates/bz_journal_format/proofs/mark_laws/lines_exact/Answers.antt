use Rattle.bz_journal_format.proofs.MarkLines.{line_exact}
use Rattle.bz_journal_format.proofs.mark_laws.lines_exact.Goals as goal

pub returns : goal.returns
returns c = line_exact
