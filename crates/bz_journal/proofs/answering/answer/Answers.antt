use Rattle.bz_journal.proofs.Words.{◌∙◌, ◌≡◌, ap, false, inl, is_some, None, Option, refl, session_history, SessionState, Some, sym, true≢false}
use Rattle.bz_journal.proofs.Edited.{edited_refused, edited_same}
use Rattle.bz_journal.proofs.answering.answer.Goals as goal

none_of : {X : Type 0} (o : Option X) → is_some o ≡ false → o ≡ None
none_of None e = refl
none_of (Some x) e = absurd (true≢false e)

pub returns-else-is_some-2-clause-made : goal.returns-else-is_some-2-clause-made
returns-else-is_some-2-clause-made c = λ note. record {
  makes =
      edited_same c.args.command.now c.args.target.now c.as_bytes-current.result.now c.present-here.result.now c.in-Ok.file c.known-known.result.lines.now c.reads_back.ensures
      c.in-Ok.ensures (rw c.known-known.ensures.lines c.in-Ok-look_up.ensures.alike) note (session_history c.args.course.now) (c.as_bytes-current.ensures.value ∙ ap (λ (s : SessionState). s.«package») c.course.view_is)
      c.present-here.ensures.text c.in-Ok.file c.in-Ok-ran.outcome.printed c.printed_answer.result c.unchanged.result
      (c.in-Ok-ran.ensures.unchanged.0 (none_of c.in-Ok-ran.outcome.file (sym c.is_some-in-Ok-ran.ensures ∙ c.if-is_some-2.false))) refl c.in-Ok-ran.ensures.printed c.printed_answer.ensures c.unchanged.ensures;
  unmoved = tt;
  small = λ own. own;
}

pub returns-in-Err-clause-made : goal.returns-in-Err-clause-made
returns-in-Err-clause-made c = λ note. record {
  makes =
      edited_refused c.args.command.now c.args.target.now c.as_bytes-current.result.now c.present-here.result.now c.in-Ok.file c.known-known.result.lines.now c.reads_back.ensures
      c.in-Ok.ensures (rw c.known-known.ensures.lines c.in-Ok-look_up.ensures.alike) note (session_history c.args.course.now) (c.as_bytes-current.ensures.value ∙ ap (λ (s : SessionState). s.«package») c.course.view_is)
      c.present-here.ensures.text c.in-Err.refusal (inl c.in-Err.ensures.err);
  unmoved = refl;
  small = λ own. own;
}
