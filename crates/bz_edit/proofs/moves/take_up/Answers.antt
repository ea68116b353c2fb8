use Rattle.bz_edit.proofs.Words.{IsStep, subst, trail_at, with_windows}
use Rattle.bz_edit.proofs.Taking.{took_up}
use Rattle.bz_edit.proofs.moves.take_up.Goals as goal

pub returns-clause-ok : goal.returns-clause-ok
returns-clause-ok c =
    took_up (trail_at c.args.tree.now c.args.steps.now.items c.args.cursor) (with_windows c.args.windows c.args.tree.now) c.advance_windows.new.tree c.in_ok-step.step c.reserve.new.self.items
    c.put_after.new.items.items c.requires.trail c.requires.next (subst IsStep c.step.view_is c.step.invariant) c.requires.other
    c.in_ok-step.ensures.step c.in_ok-step.ensures.tree c.reserve.ensures.items c.put_after.ensures
