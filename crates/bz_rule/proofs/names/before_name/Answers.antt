use Rattle.bz_rule.proofs.Dotted.{before_both, before_neither}
use Rattle.bz_rule.proofs.names.before_name.Goals as goal

pub returns-in-Some : goal.returns-in-Some
returns-in-Some c = before_both c.args.text.now c.in-Some.front.now c.args.name.now c.before_dot.result c.in-Some.ensures c.before_dot.ensures

pub returns-in-None : goal.returns-in-None
returns-in-None c = before_neither c.args.text.now c.args.name.now c.in-None.ensures
