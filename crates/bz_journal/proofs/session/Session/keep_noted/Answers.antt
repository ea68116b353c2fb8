use Rattle.bz_journal.proofs.Words.{◌∙◌, action_in, IfOk-weaker, IsWrittenSince, SessionState, subst, ℕ}
use Rattle.bz_journal.proofs.session.Session.keep_noted.Goals as goal

pub returns : goal.returns
returns g c =
    let t : SessionState = c.act_noted-answer.new.self in
    c.persist.ensures c.args.self.now t (action_in c.args.action.now) c.args.note.now
    (IfOk-weaker c.text_of-standing.result _ _ (λ text is. is ∙ c.present.ensures.text) c.text_of-standing.ensures)
    (subst (λ (k : ℕ). IsWrittenSince t k c.written_since-written.result) c.cursor-from.ensures c.written_since-written.ensures)
    c.act_noted-answer.ensures
