use Rattle.bz_tree.proofs.Placed.{unexpected_placed}
use Rattle.bz_tree.proofs.parsing.fault_before.Goals as goal

pub returns-in-Some-clause-placed : goal.returns-in-Some-clause-placed
returns-in-Some-clause-placed c _ = unexpected_placed _ _ _ _ c.unexpected_at.ensures.answered

pub returns-clause-placed : goal.returns-clause-placed
returns-clause-placed c _ = unexpected_placed _ _ _ _ c.unexpected_at-2.ensures.answered
