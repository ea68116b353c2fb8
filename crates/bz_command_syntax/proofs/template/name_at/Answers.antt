use Rattle.std.proofs.Common.{sym}
use Rattle.bz_command_syntax.proofs.Templates.{nothing_there}
use Rattle.bz_command_syntax.proofs.template.name_at.Goals as goal

pub returns-in_default-clause-value : goal.returns-in_default-clause-value
returns-in_default-clause-value c = sym (nothing_there _ c.in_default.ensures.cases)
