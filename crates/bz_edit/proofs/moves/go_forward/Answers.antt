use Rattle.bz_edit.proofs.Words.{◌+◌, arith, trail_at}
use Rattle.bz_edit.proofs.Passing.{went_forward, lead_forward}
use Rattle.bz_edit.proofs.moves.go_forward.Goals as goal

pub cross_all-requires-clause-lead : goal.cross_all-requires-clause-lead
cross_all-requires-clause-lead c = lead_forward (trail_at c.args.tree.now c.args.steps.now c.args.cursor) (c.args.cursor + c.args.n) c.requires.trail (omega arith) c.requires.within

pub returns-clause-ok : goal.returns-clause-ok
returns-clause-ok c =
    went_forward (trail_at c.args.tree.now c.args.steps.now c.args.cursor) (c.args.cursor + c.args.n) c.cross_all.result c.cross_all.new.tree c.cross_all.new.steps
    c.requires.trail (omega arith) c.requires.within c.cross_all.ensures.tree c.cross_all.ensures.steps
