use Rattle.bz_journal.proofs.Words.{◌≡◌, Action, action_in, Form, History, IsSeenIn, IsWrittenSince, Keeps, KeepsFile, KeepsPair, option_flatten, option_map, past_history, result_ok, rules, session_history, SessionState, subst, sym, Written, ℕ}
use Rattle.bz_journal.proofs.{InForm.made_as, InForm.same_history, Persisting.file_unkept, Persisting.text_kept}
use Rattle.bz_journal.proofs.past.Past.keep_noted.Goals as goal

pub returns-in-Alone-clause-pair : goal.returns-in-Alone-clause-pair
returns-in-Alone-clause-pair g c =
    subst (λ (form : Form). KeepsFile g.F.Files c.args.file.now (past_history form) c.in-Alone.texts c.map_err.result c.args.files.now c.args.files.now)
    (sym (made_as c.args.self.now _ _ _ c.make_course.ensures c.self.view_is c.in-Alone.is))
    (file_unkept g.F.Files c.args.file.now c.in-Alone.texts c.args.files.now (g.met.F.Files.only_now c.args.files.now) c.wanting.result c.map_err.result c.map_err.ensures.cases)

pub written_since-written-requires : goal.written_since-written-requires
written_since-written-requires g c = c.settle.ensures.digests c.in-Course.course (action_in c.args.action.now) c.args.note.now c.act-answer.ensures.acted c.learn.ensures

pub invariant_of-self-2 : goal.invariant_of-self-2
invariant_of-self-2 g c =
    let text : c.map.result ≡ option_map (λ (w : Written). w.text) (option_flatten (result_ok c.written_since-written.result)) = search rules in (
      subst (λ (s : SessionState). IsSeenIn s.tree c.settle.new.seen) (sym c.written_since-written.ensures.stays) c.settle.ensures.seen,
      c.written_since-written.ensures.first,
      text_kept c.written_since-written.new.course c.cursor-from.result c.written_since-written.result c.map.result c.written_since-written.ensures.written text,
    )

pub returns-clause-pair : goal.returns-clause-pair
returns-clause-pair g c =
    let action : Action = action_in c.args.action.now in
    let s : SessionState = c.in-Course.course in
    let t : SessionState = c.written_since-written.new.course in
    let written : IsWrittenSince t s.cursor c.written_since-written.result =
    subst (λ (k : ℕ). IsWrittenSince t k c.written_since-written.result) c.cursor-from.ensures c.written_since-written.ensures.written in
    subst (λ (h : History). KeepsFile g.F.Files c.args.file.now h (session_history t) c.persist-kept.result c.args.files.now c.persist-kept.new.files)
    (same_history c.args.self.now s (made_as c.args.self.now _ _ _ c.make_course.ensures c.self.view_is c.in-Course.is))
    (KeepsPair.pair (c.persist-kept.ensures s t action c.args.note.now c.own_text-standing.ensures written
    (rw c.written_since-written.ensures.stays c.act-answer.ensures.acted)))

pub returns-clause-keeps : goal.returns-clause-keeps
returns-clause-keeps g c =
    let action : Action = action_in c.args.action.now in
    let s : SessionState = c.in-Course.course in
    let t : SessionState = c.written_since-written.new.course in
    let written : IsWrittenSince t s.cursor c.written_since-written.result =
    subst (λ (k : ℕ). IsWrittenSince t k c.written_since-written.result) c.cursor-from.ensures c.written_since-written.ensures.written in
    subst (λ (h : History). Keeps action c.args.note.now h c.persist-kept.result (session_history t))
    (same_history c.args.self.now s (made_as c.args.self.now _ _ _ c.make_course.ensures c.self.view_is c.in-Course.is))
    (KeepsPair.keeps (c.persist-kept.ensures s t action c.args.note.now c.own_text-standing.ensures written
    (rw c.written_since-written.ensures.stays c.act-answer.ensures.acted)))
