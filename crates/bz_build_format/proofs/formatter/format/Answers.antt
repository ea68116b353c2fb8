use Rattle.bz_build_format.proofs.Words.{FormatsTo, IsFormatted}
use Rattle.bz_build_format.proofs.Formatting.{given_so}
use Rattle.bz_build_format.proofs.formatter.format.Goals as goal

pub returns-clause-fixed : goal.returns-clause-fixed
returns-clause-fixed c = given_so (FormatsTo c.args.text.now) (IsFormatted c.args.text.now) (c.formatted_once.ensures c.args.text.now) c.formatted.result c.formatted.ensures
