use Rattle.bz_resume.proofs.Words.{as_taken, length}
use Rattle.bz_resume.proofs.Loops.{IsGoing}
use Rattle.bz_resume.proofs.replaying.lead_on.Given as goal

abbrev pub invariant-loop-step : goal.invariant-loop-step
invariant-loop-step l = IsGoing l.fn.node (as_taken l.fn.way l.fn.steps) (as_taken l.fn.way l.fn.digests) l.node l.text.items (as_taken l.fn.way l.steps)
    (as_taken l.fn.way l.digests)

abbrev pub decreases-loop-step : goal.decreases-loop-step
decreases-loop-step l = length l.steps
