use Rattle.bz_edit.proofs.Words.{◌-◌, arith, trail_at}
use Rattle.bz_edit.proofs.Passing.{went_back, lead_back, even_back}
use Rattle.bz_edit.proofs.moves.go_back.Goals as goal

pub cross_all-answer-requires-clause-lead : goal.cross_all-answer-requires-clause-lead
cross_all-answer-requires-clause-lead c = lead_back (trail_at c.args.tree.now c.args.steps.now c.args.cursor) (c.args.cursor - c.args.n) c.reverse.new.self c.requires.trail (omega arith) c.reverse.ensures.after

pub returns-clause-ok : goal.returns-clause-ok
returns-clause-ok c =
    went_back (trail_at c.args.tree.now c.args.steps.now c.args.cursor) (c.args.cursor - c.args.n) c.cross_all-answer.result c.cross_all-answer.new.tree c.reverse.new.self c.cross_all-answer.new.steps
    c.reverse-2.new.self c.requires.trail (omega arith) c.reverse.ensures.after c.cross_all-answer.ensures.tree c.cross_all-answer.ensures.steps c.reverse-2.ensures.after

pub returns-clause-even : goal.returns-clause-even
returns-clause-even c = λ even.
    c.cross_all-answer.ensures.even
    (even_back (trail_at c.args.tree.now c.args.steps.now c.args.cursor) c.args.n c.reverse.new.self c.requires.trail c.requires.within c.reverse.ensures.after even)
