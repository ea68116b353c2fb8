use Rattle.bz_lex.proofs.Characters.{end_cut}
use Rattle.bz_lex.proofs.source.following.Goals as goal

pub range_from-requires : goal.range_from-requires
range_from-requires c = λ _. end_cut _ _ c.utf8.text c.requires
