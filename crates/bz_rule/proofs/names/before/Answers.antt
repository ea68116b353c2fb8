use Rattle.bz_rule.proofs.Words.{Decides-eqb, strip_suffix_is}
use Rattle.bz_rule.proofs.names.before.Goals as goal

pub returns : goal.returns
returns c = strip_suffix_is Decides-eqb c.args.text.now c.args.end.now c.strip_suffix.result c.strip_suffix.ensures.cases
