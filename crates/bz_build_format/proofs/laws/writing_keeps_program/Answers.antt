use Rattle.bz_build_format.proofs.Formatting.{written_program}
use Rattle.bz_build_format.proofs.laws.writing_keeps_program.Goals as goal

pub returns : goal.returns
returns c =
    written_program c.one_reading.ensures c.layout_is_accepted.ensures c.build_layout_is_build.ensures c.layout_reads_back.ensures c.proper_stays.ensures c.build_stays.ensures c.tidy_settles.ensures
    c.program_stays.ensures
