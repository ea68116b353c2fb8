use Rattle.bz_journal_format.proofs.Whole.{one_record}
use Rattle.bz_journal_format.proofs.laws.one_record.Goals as goal

pub returns : goal.returns
returns c = one_record
