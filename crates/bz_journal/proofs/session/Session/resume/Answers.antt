use Rattle.bz_journal.proofs.Resuming.{known_made, resumed_made}
use Rattle.bz_journal.proofs.session.Session.resume.Goals as goal

pub returns-in-Ok-clause-ok : goal.returns-in-Ok-clause-ok
returns-in-Ok-clause-ok c = resumed_made c.args.journal.now c.args.text.now c.in-Ok.resumed c.of_resumed.result c.in-Ok.ensures.ok c.of_resumed.ensures.ok

pub returns-in-Ok-clause-known : goal.returns-in-Ok-clause-known
returns-in-Ok-clause-known c = λ h es journal.
    known_made h es c.args.text.now c.in-Ok.resumed c.of_resumed.result (c.in-Ok.ensures.known h es journal) c.of_resumed.ensures.ok c.of_resumed.ensures.kinds

pub returns-in-Err-clause-damaged : goal.returns-in-Err-clause-damaged
returns-in-Err-clause-damaged c = λ is. c.in-Err.ensures.damaged (cc)
