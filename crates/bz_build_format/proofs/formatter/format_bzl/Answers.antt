use Rattle.bz_build_format.proofs.Words.{FormatsBzlTo, IsFormattedBzl}
use Rattle.bz_build_format.proofs.Formatting.{given_so}
use Rattle.bz_build_format.proofs.formatter.format_bzl.Goals as goal

pub returns-clause-fixed : goal.returns-clause-fixed
returns-clause-fixed c = given_so (FormatsBzlTo c.args.text.now) (IsFormattedBzl c.args.text.now) (c.formatted_suites_once.ensures c.args.text.now) c.formatted.result c.formatted.ensures
