use Rattle.bz_journal.proofs.Words.{◌∙◌, ap, AreOver, false≢true, Item, List, Node, refl, session_history, SessionState, subst, sym, view_of}
use Rattle.bz_journal.proofs.Edited.{edited_made, edited_refused, edited_same}
use Rattle.bz_journal.proofs.doing.edit.Goals as goal

pub returns-then-is_empty-clause-made : goal.returns-then-is_empty-clause-made
returns-then-is_empty-clause-made c = record {
  makes =
      edited_same c.args.command.now c.args.target.now c.as_bytes-current.result.now c.present-here.result.now c.in_ok-file.file _ c.reads_back.ensures c.in_ok-file.ensures c.in-Ok.ensures.alike
      c.args.note.now (session_history c.args.course.now) (c.as_bytes-current.ensures.value ∙ ap (λ (s : SessionState). s.«package») c.course.view_is) c.present-here.ensures.text c.run_beside.new.file c.in-Ok-run_beside.ran.printed
      c.printed_answer-printed.result c.unchanged.result c.in-Ok-run_beside.ensures.ok (c.in-Ok-run_beside.ensures.same.0 (c.is_empty.ensures.0 c.if-is_empty.true)) c.in-Ok-run_beside.ensures.printed
      c.printed_answer-printed.ensures c.unchanged.ensures;
  unmoved = tt;
  small = λ own. own;
}

pub take_up-requires-clause-over : goal.take_up-requires-clause-over
take_up-requires-clause-over c =
    subst (λ (n : Node). AreOver c.in-Ok-run_beside.ran.windows (view_of n) c.run_beside.new.file) c.present-here.ensures.tree
    (subst (λ (xs : List Item). AreOver c.in-Ok-run_beside.ran.windows xs c.run_beside.new.file) c.in_ok-file.ensures c.in-Ok-run_beside.ensures.windows)

pub returns-else-is_empty-clause-made : goal.returns-else-is_empty-clause-made
returns-else-is_empty-clause-made c =
    let new : List Item = c.run_beside.new.file in
    let end = c.take_up.ensures.end in
    record {
      makes =
          edited_made c.args.command.now c.args.target.now c.as_bytes-current.result.now c.present-here.result.now c.in_ok-file.file _ c.reads_back.ensures c.in_ok-file.ensures c.in-Ok.ensures.alike
          c.args.note.now (session_history c.args.course.now) (c.as_bytes-current.ensures.value ∙ ap (λ (s : SessionState). s.«package») c.course.view_is) c.present-here.ensures.text (session_history c.take_up.new.course) new
          c.in-Ok-run_beside.ran c.printed_answer-printed.result c.take_up.result c.in-Ok-run_beside.ensures (λ none. false≢true (sym c.if-is_empty.false ∙ c.is_empty.ensures.1 none))
          c.printed_answer-printed.ensures end.made;
      unmoved = end.unmoved;
      small = end.small;
    }

pub returns-in-Err-clause-made : goal.returns-in-Err-clause-made
returns-in-Err-clause-made c = record {
  makes =
      edited_refused c.args.command.now c.args.target.now c.as_bytes-current.result.now c.present-here.result.now c.in_ok-file.file _ c.reads_back.ensures c.in_ok-file.ensures c.in-Ok.ensures.alike
      c.args.note.now (session_history c.args.course.now) (c.as_bytes-current.ensures.value ∙ ap (λ (s : SessionState). s.«package») c.course.view_is) c.present-here.ensures.text c.in-Err.refusal c.in-Err.ensures.err;
  unmoved = refl;
  small = λ own. own;
}
