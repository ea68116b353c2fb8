use Rattle.bz_journal_format.proofs.Digests.{digest_fits}
use Rattle.bz_journal_format.proofs.laws.digests_fit.Goals as goal

pub returns : goal.returns
returns c = digest_fits
