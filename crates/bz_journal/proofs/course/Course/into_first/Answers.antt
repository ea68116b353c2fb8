use Rattle.bz_journal.proofs.Words.{◌≡◌, opened, session_history, SessionState, spell_node, subst, sym}
use Rattle.bz_journal.proofs.LastText.{opened_first}
use Rattle.bz_journal.proofs.course.Course.into_first.Goals as goal

pub returns-clause-first : goal.returns-clause-first
returns-clause-first c =
    let s : SessionState = c.args.self in
    subst (λ (t : SessionState). session_history s ≡ opened t.«package» (spell_node t.tree)) (sym c.self.view_is)
    (opened_first (session_history s) (spell_node s.tree) c.holds.ensures.kept c.requires c.holds.ensures.text)

pub returns-clause-path : goal.returns-clause-path
returns-clause-path c = c.self.invariant.0.named
