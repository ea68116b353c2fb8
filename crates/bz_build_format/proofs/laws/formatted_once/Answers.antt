use Rattle.bz_build_format.proofs.Formatting.{formatted_again}
use Rattle.bz_build_format.proofs.laws.formatted_once.Goals as goal

pub returns : goal.returns
returns c =
    formatted_again c.one_reading.ensures c.views_are_proper.ensures c.build_views.ensures c.comments_kept.ensures c.layout_is_accepted.ensures c.build_layout_is_build.ensures c.layout_reads_back.ensures
    c.proper_stays.ensures c.build_stays.ensures c.tidy_settles.ensures c.tidy_stays.ensures c.comments_stay.ensures c.program_stays.ensures c.tokens_stay.ensures c.views_keep_programs.ensures
