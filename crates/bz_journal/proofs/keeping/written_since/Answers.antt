use Rattle.bz_journal.proofs.Words.{◌∙◌, ◌≡◌, ◌≢◌, ap, arith, IsSavedSession, length, map, present, record_made, record_of, refl, saved, session_history, session_trail, SessionState, sha256, subst, sym, texts_of, Two}
use Rattle.bz_journal_format.specs.{declared.content.Record.Record, Texts.record_text}
use Rattle.bz_journal.proofs.{Following.has_moved, Kept.first_of_same, Resuming.same_state}
use Rattle.bz_journal.proofs.keeping.written_since.Goals as goal

pub record_bytes-requires-clause-noted : goal.record_bytes-requires-clause-noted
record_bytes-requires-clause-noted c = omega (arith, c.course.invariant.0.noted, ap length c.as_slice-3.ensures.value, ap length c.as_slice-4.ensures.value)

pub record_bytes-requires-clause-first : goal.record_bytes-requires-clause-first
record_bytes-requires-clause-first c =
    let i = c.course.inside in
    let digests = c.as_slice-2.ensures.value ∙ c.in_ok-complete.ensures.all ∙ ap (λ (s : SessionState). map sha256 (texts_of (session_trail s))) (sym c.course.view_is) in
    first_of_same _ c.as_slice-2.result.now i.notes.items c.as_slice-3.result.now i.steps.items c.as_slice-4.result.now i.kept digests c.as_slice-3.ensures.value c.as_slice-4.ensures.value c.course.invariant.1

pub invariant_of-course : goal.invariant_of-course
invariant_of-course c =
    let i = c.course.inside in
    let digests = c.as_slice-2.ensures.value ∙ c.in_ok-complete.ensures.all ∙ ap (λ (s : SessionState). map sha256 (texts_of (session_trail s))) (sym c.course.view_is) in (
      c.course.invariant.0,
      first_of_same c.as_slice-2.result.now _ c.as_slice-3.result.now i.notes.items c.as_slice-4.result.now i.steps.items c.record_bytes.new.kept (sym digests) (sym c.as_slice-3.ensures.value) (sym c.as_slice-4.ensures.value)
          c.record_bytes.ensures.first,
    )

pub returns-clause-written : goal.returns-clause-written
returns-clause-written c =
    let i = c.course.inside in
    let borrowed : SessionState = record { tree = i.tree; steps = c.as_slice-4.result.now; notes = c.as_slice-3.result.now; «package» = c.as_bytes.result.now; cursor = i.cursor; before = i.before } in
    let same : borrowed ≡ c.args.course.now = same_state i.tree c.as_slice-4.result.now i.steps.items c.as_slice-3.result.now i.notes.items c.as_bytes.result.now _ i.cursor i.before
    c.as_slice-4.ensures.value c.as_slice-3.ensures.value c.as_bytes.ensures.value ∙ c.course.view_is in
    let stays = sym c.course.view_is in
    let own = rw c.in_ok-text.was at c.own_text-text.ensures in
    let text : c.as_slice.result.now ≡ present (session_history borrowed) = c.as_slice.ensures.value ∙ own ∙ ap (λ (s : SessionState). present (session_history s)) (sym same) in
    let digests : c.as_slice-2.result.now ≡ map sha256 (session_history borrowed).texts =
    c.as_slice-2.ensures.value ∙ c.in_ok-complete.ensures.all ∙ ap (λ (s : SessionState). map sha256 (session_history s).texts) (sym same) in
    let record_is : record_of (session_history borrowed) borrowed.steps ≡ record_of (session_history c.args.course.now) c.args.course.now.steps = ap (λ (s : SessionState). record_of (session_history s) s.steps) same in (
      subst (λ (t : SessionState). t.cursor ≢ c.args.from) stays (has_moved c.cursor.result c.args.from _ c.args.from c.if-cursor-from.false c.cursor.ensures refl),
      record {
        stored = c.in_ok-journal.ensures.ok ∙ ap (λ (r : Record). record_text Two r) (record_made (session_history borrowed) borrowed.steps c.as_slice.result.now c.as_slice-2.result.now text digests ∙ record_is) ∙ ap saved stays;
        own = subst (λ (t : SessionState). IsSavedSession t) stays c.holds.ensures.journal;
        text = own ∙ ap (λ (t : SessionState). present (session_history t)) stays;
      },
    )
