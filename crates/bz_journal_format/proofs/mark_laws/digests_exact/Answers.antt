use Rattle.bz_journal_format.proofs.Formats.{digest_exact}
use Rattle.bz_journal_format.proofs.mark_laws.digests_exact.Goals as goal

pub returns : goal.returns
returns c = digest_exact
