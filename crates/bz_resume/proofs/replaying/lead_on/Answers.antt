use Rattle.bz_resume.proofs.Loops.{went}
use Rattle.bz_resume.proofs.replaying.lead_on.Goals as goal

pub loop-step-preserved : goal.loop-step-preserved
loop-step-preserved c =
    let done = c.in_ok-goes_on.ensures in
    let true = c.if-not-branch.false in
    went c.loop-step.invariant c.in-Some.ensures.first c.in-Some-taken.ensures.first c.goes_on.new.node c.goes_on.new.text.items (done.agrees.0 true) (done.node true) (done.text true)
