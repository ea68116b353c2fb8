use Rattle.bz_journal.proofs.MovedLines.{opening}
use Rattle.bz_journal.proofs.moving.opening.Goals as goal

pub returns : goal.returns
returns c = λ front. opening c.args.part.now c.in_ok-parts.parts.now c.in_ok-leaf.leaf.now front c.in_ok-parts.ensures c.in_ok-leaf.ensures
