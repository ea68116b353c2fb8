use Rattle.bz_token.proofs.Glances.{operator_token}
use Rattle.bz_token.proofs.scan.operator.Goals as goal

pub returns : goal.returns
returns c = operator_token c.args.text.now c.requires.some c.requires.operator (c.is_before_equals.ensures c.if-is_before_equals.false)
