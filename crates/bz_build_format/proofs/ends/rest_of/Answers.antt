use Rattle.bz_build_format.proofs.Words.{Decides-eqb, strip_prefix_is, strip_suffix_is}
use Rattle.bz_build_format.proofs.ends.rest_of.Goals as goal

pub returns-in-Front : goal.returns-in-Front
returns-in-Front c = rw c.in-Front.is (strip_prefix_is Decides-eqb c.args.text.now c.args.end.now c.strip_prefix.result c.strip_prefix.ensures.cases)

pub returns-in-Back : goal.returns-in-Back
returns-in-Back c = rw c.in-Back.is (strip_suffix_is Decides-eqb c.args.text.now c.args.end.now c.strip_suffix.result c.strip_suffix.ensures.cases)
