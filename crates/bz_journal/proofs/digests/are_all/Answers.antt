use Rattle.bz_journal.proofs.Words.{◌+◌, arith, common_steps, session_history, sha256}
use Rattle.bz_journal.proofs.Digested.{all_first}
use Rattle.bz_journal.proofs.digests.are_all.Goals as goal

pub returns : goal.returns
returns c = λ is. grind (arith, common_steps, all_first sha256 (c.steps.result + 1) c.args.digests.now (session_history c.args.course.now).texts c.requires)
