use Rattle.std.proofs.Common.{sym}
use Rattle.bz_command_syntax.proofs.NameTests.{name_found, other_found, no_identifier}
use Rattle.bz_command_syntax.proofs.forms.is_identifier.Goals as goal

pub returns-in-Name : goal.returns-in-Name
returns-in-Name c = name_found c.in-Some.found.class c.in-Some.found.len c.args.text.now c.in-Some.ensures.exact c.in-Name.is

pub returns-in_default : goal.returns-in_default
returns-in_default c = sym (other_found c.in-Some.found.class c.in-Some.found.len c.args.text.now c.in-Some.ensures.exact c.in_default.not-Name)

pub returns-in-None : goal.returns-in-None
returns-in-None c = sym (no_identifier c.args.text.now c.in-None.ensures.exact)
