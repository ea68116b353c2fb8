use Rattle.bz_journal_format.proofs.Own.{own_version}
use Rattle.bz_journal_format.proofs.laws.own_version.Goals as goal

pub returns : goal.returns
returns c = own_version
