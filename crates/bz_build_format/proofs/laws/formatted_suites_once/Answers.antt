use Rattle.bz_build_format.proofs.Formatting.{bzl_formatted_again}
use Rattle.bz_build_format.proofs.laws.formatted_suites_once.Goals as goal

pub returns : goal.returns
returns c =
    bzl_formatted_again c.one_bzl_reading.ensures c.comments_kept.ensures c.level_stays.ensures c.level_keeps_comments.ensures c.level_keeps_program.ensures c.views_keep_programs.ensures
