use Rattle.bz_journal.proofs.Layouts.{written_is_laid_out}
use Rattle.bz_journal.proofs.laws.written_is_laid_out.Goals as goal

pub returns : goal.returns
returns c =
    written_is_laid_out c.one_reading.ensures c.layout_is_accepted.ensures c.build_layout_is_build.ensures c.layout_reads_back.ensures c.proper_stays.ensures c.build_stays.ensures c.tidy_settles.ensures c.tidy_stays.ensures
