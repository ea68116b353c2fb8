use Rattle.bz_journal.proofs.Words.{◌++◌, ◌∙◌, ap, saved, SessionState}
use Rattle.bz_journal.proofs.Resuming.{same_state}
use Rattle.bz_journal.proofs.session.Session.save_into.Goals as goal

pub returns-clause-ok : goal.returns-clause-ok
returns-clause-ok c =
    let i = c.self.inside in
    let same = same_state i.tree c.as_slice-4.result.now i.steps.items c.as_slice-3.result.now i.notes.items c.as_bytes.result.now _ i.cursor i.before
    c.as_slice-4.ensures.value c.as_slice-3.ensures.value c.as_bytes.ensures.value ∙ c.self.view_is in
    c.in_ok-save_into.ensures.ok ∙ ap (λ (s : SessionState). c.args.out.now.items ++ saved s) same
