use Rattle.bz_lex.proofs.Fronts.{broken_front}
use Rattle.bz_lex.proofs.front.leaf_front.Goals as goal

pub returns-in-Some : goal.returns-in-Some
returns-in-Some c = broken_front _ _ _ _ c.newlines.ensures c.in-Some.ensures.0 c.gap_front-gap.ensures.taken c.gap_front-gap.ensures.stops
