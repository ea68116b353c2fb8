use Rattle.bz_journal.proofs.Words.{IsSession, subst}
use Rattle.bz_journal.proofs.Resuming.{state_holds}
use Rattle.bz_journal.proofs.course.Course.holds.Goals as goal

pub returns : goal.returns
returns c =
    state_holds c.one_reading.ensures c.texts_kept.ensures c.steps_lead.ensures c.small_steps.ensures.between c.small_steps.ensures.least c.args.self.now (subst IsSession c.self.view_is c.self.invariant.0)
