use Rattle.bz_journal_format.proofs.Added.{undone_one, undone_two}
use Rattle.bz_journal_format.proofs.laws.undone_session.Goals as goal

pub returns : goal.returns
returns c = (undone_one, undone_two)
