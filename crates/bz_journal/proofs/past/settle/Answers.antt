use Rattle.bz_journal.proofs.Words.{◌∙◌, false≢true, session_history, sym}
use Rattle.bz_journal.proofs.{Digested.first_cut, Digested.first_stay, Following.goes}
use Rattle.bz_journal.proofs.past.settle.Goals as goal

pub returns-then-not-is_changed-clause-digests : goal.returns-then-not-is_changed-clause-digests
returns-then-not-is_changed-clause-digests c = λ s action note acted first.
    first_stay c.args.answer.now (session_history s) (session_history c.args.course.now) c.args.digests.now.items
    (goes action note (session_history s) (session_history c.args.course.now) c.args.answer.now acted.within acted.acts)
    (λ is. false≢true (sym c.if-not-is_changed.true ∙ c.is_changed.ensures.no is)) first

pub returns-clause-digests : goal.returns-clause-digests
returns-clause-digests c = λ s action note acted first.
    first_cut c.args.answer.now (session_history s) (session_history c.args.course.now) c.cursor.result c.args.digests.now.items c.truncate.new.self.items
    (goes action note (session_history s) (session_history c.args.course.now) c.args.answer.now acted.within acted.acts)
    (c.is_changed.ensures.yes c.if-not-is_changed.false) c.cursor.ensures first c.truncate.ensures.items
