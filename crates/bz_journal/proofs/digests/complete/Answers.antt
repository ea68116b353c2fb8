use Rattle.bz_journal.specs.Clauses.{session_history, sha256}
use Rattle.bz_journal.proofs.Digested.{first_of_all}
use Rattle.bz_journal.proofs.digests.complete.Goals as goal

pub returns-clause-first : goal.returns-clause-first
returns-clause-first c = first_of_all sha256 _ (session_history c.args.course.now).texts c.in_ok-digests.ensures
