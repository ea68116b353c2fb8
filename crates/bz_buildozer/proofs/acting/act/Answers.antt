use Rattle.bz_buildozer.proofs.Words.{[], ◌∙◌, ◌∷◌, Action, action_in, Answers, ap, AreHints, Bytes, Cut, Err, file_left, inl, inr, KeepFault, KeepsAt, Memory, Ok, Opened, Option, option_map, Pair, Progress, progress_in, refl, Refused, reply_notes, reported_of, ReportsLines, request_in, Some, step_in, subst, sym, true, unkept_line}
use Rattle.bz_buildozer.proofs.{ActSteps.file_put, ActSteps.free_here, ActSteps.leads_by, ActSteps.led_to, ActSteps.left_answers, ActSteps.step_at, FailSteps.one_line, KeepSteps.kept_answers, KeepSteps.kept_by, KeepSteps.kept_open, KeepSteps.refused_answers, KeepSteps.unkept_answers, KeepSteps.unprinted_answers, KeepSteps.wants_memory, SafeSteps.name_left, UnreadSteps.grows_none}
use Rattle.bz_buildozer.proofs.acting.act.Goals as goal

pub returns-in_default-clause-answers : goal.returns-in_default-clause-answers
returns-in_default-clause-answers g c = λ honest safe. rw (c.in_default.is) ([], (refl, refl, refl), (refl, refl))

pub returns-then-is_left_at-clause-answers : goal.returns-then-is_left_at-clause-answers
returns-then-is_left_at-clause-answers g c = λ honest safe. rw (c.in-Some.is) (
  [],
  left_answers c.args.journals (step_in c.args.step) c.in-Some.place (g.F.Files.folder c.args.files.now) (progress_in c.args.run.now)
      (sym c.is_left_at.ensures ∙ c.if-is_left_at.true),
  (refl, refl),
)

pub returns-in_default-action_of-clause-answers : goal.returns-in_default-action_of-clause-answers
returns-in_default-action_of-clause-answers g c = λ honest safe. rw (c.in-Some.is)
    (c.list_at.ensures.answers (g.F.Files.folder c.args.files.now) (step_in c.args.step)
    (sym c.is_left_at.ensures ∙ c.if-is_left_at.false) (sym c.action_of.ensures ∙ ap (option_map action_in) c.in_default-action_of.is) refl)

pub returns-in_default-clause-keeps : goal.returns-in_default-clause-keeps
returns-in_default-clause-keeps g c = λ kept. inl (refl, refl)

pub returns-then-is_left_at-clause-keeps : goal.returns-then-is_left_at-clause-keeps
returns-then-is_left_at-clause-keeps g c = λ kept. inl (refl, refl)

pub returns-in_default-action_of-clause-keeps : goal.returns-in_default-action_of-clause-keeps
returns-in_default-action_of-clause-keeps g c = λ kept. inl (c.list_at.ensures.same, refl)

pub returns-in-Ok-put_printed-clause-answers : goal.returns-in-Ok-put_printed-clause-answers
returns-in-Ok-put_printed-clause-answers g c = λ honest safe. rw (c.in-Some.is) (
    let free = sym c.is_left_at.ensures ∙ c.if-is_left_at.false in
    let requested = sym c.action_of.ensures ∙ ap (option_map action_in) c.in-Some-action_of.is in
    let target = c.args.step.target.now in
    let verb = (request_in c.args.step.request.now).verb in
    let before = progress_in c.args.run.now in
    let action = action_in c.in-Some-action_of.action in
    let done : KeepsAt c.args.journals g.F.Files c.in-Some.place action c.args.step.request.now.text.now before.used (Ok c.in-Ok.reply) c.act.new.self c.args.files.now c.act.new.files = c.in-Ok.ensures.acts in
    let new : Opened = file_left c.args.journals (Ok c.in-Ok.reply) done.history done.file in
    let notes = reply_notes (Some action) c.in-Ok.reply done.file.name in (
      notes,
      subst (λ (why : Cut). Answers why c.args.journals (step_at target verb c.args.step.request.now.text.now) (Some c.in-Some.place) (g.F.Files.folder c.args.files.now) before notes
          (g.F.Files.folder c.act.new.files) (record before { used = c.act.new.self; printed = c.put_printed.new.printed.items })) (sym c.note.ensures.cut)
          (kept_answers g.F.Files g.met.F.Files.counts_now c.args.journals target verb c.args.step.request.now.text.now c.in-Some.place action before _ c.act.new.self
          c.args.files.now c.act.new.files requested honest safe free c.in-Ok.reply done _ refl c.in-Ok-put_printed.ensures.ok),
      subst (λ (name : Bytes). ReportsLines g.E.Sink c.args.err.now c.note.new.err (reply_notes (Some action) c.in-Ok.reply name))
          (name_left c.args.journals (Ok c.in-Ok.reply) done.history done.file)
          (c.note.ensures.notes new (file_put c.in-Some.place before.used c.act.new.self done.file new done.there done.kept)),
    ))

pub returns-in-Ok-clause-answers : goal.returns-in-Ok-clause-answers
returns-in-Ok-clause-answers g c = λ honest safe. rw (c.in-Some.is) (
    let free = sym c.is_left_at.ensures ∙ c.if-is_left_at.false in
    let requested = sym c.action_of.ensures ∙ ap (option_map action_in) c.in-Some-action_of.is in
    let target = c.args.step.target.now in
    let verb = (request_in c.args.step.request.now).verb in
    let before = progress_in c.args.run.now in
    let done : KeepsAt c.args.journals g.F.Files c.in-Some.place (action_in c.in-Some-action_of.action) c.args.step.request.now.text.now before.used (Ok c.in-Ok.reply) c.act.new.self c.args.files.now
    c.act.new.files = c.in-Ok.ensures.acts in
    let new : Opened = file_left c.args.journals (Ok c.in-Ok.reply) done.history done.file in (
      reported_of c.args.journals done.file.name c.args.step.request.now.text.now (Err Memory) [],
      unprinted_answers g.F.Files g.met.F.Files.counts_now c.args.journals target verb c.args.step.request.now.text.now c.in-Some.place (action_in c.in-Some-action_of.action) before (progress_in c.refuse.new.run)
          c.act.new.self c.args.files.now c.act.new.files requested honest safe free c.refuse.result c.in-Ok.reply c.in-Err.ensures.err.1.0 done c.put_printed.new.printed.items
          c.in-Err.ensures.err.1.1 (wants_memory c.refuse.result c.refuse.ensures.kinds (λ whole. c.refuse.ensures.whole whole refl)) c.in-Err.ensures.err.0 c.refuse.ensures.state,
      subst (λ (name : Bytes). ReportsLines g.E.Sink c.args.err.now c.refuse.new.err (reported_of c.args.journals name c.args.step.request.now.text.now (Err Memory) []))
          (name_left c.args.journals (Ok c.in-Ok.reply) done.history done.file)
          (c.refuse.ensures.reported new (file_put c.in-Some.place before.used c.act.new.self done.file new done.there done.kept)),
    ))

pub returns-in-Err-Refused-clause-answers : goal.returns-in-Err-Refused-clause-answers
returns-in-Err-Refused-clause-answers g c = λ honest safe. rw (c.in-Some.is) (
    let free = sym c.is_left_at.ensures ∙ c.if-is_left_at.false in
    let requested = sym c.action_of.ensures ∙ ap (option_map action_in) c.in-Some-action_of.is in
    let target = c.args.step.target.now in
    let verb = (request_in c.args.step.request.now).verb in
    let refusal = c.in-Err-Refused.refusal in
    let before = progress_in c.args.run.now in
    let refuse = c.refuse_action in
    let reported = rw (c.in-Err-Refused.field-0-is) at refuse.ensures.reported in
    let whole = rw (c.in-Err-Refused.field-0-is) at refuse.ensures.whole in
    let done : KeepsAt c.args.journals g.F.Files c.in-Some.place (action_in c.in-Some-action_of.action) c.args.step.request.now.text.now before.used (Err (Refused refusal)) c.act.new.self c.args.files.now
    c.act.new.files =
    subst (λ (fault : KeepFault). KeepsAt c.args.journals g.F.Files c.in-Some.place (action_in c.in-Some-action_of.action) c.args.step.request.now.text.now before.used (Err fault) c.act.new.self c.args.files.now
    c.act.new.files) c.in-Err-Refused.field-0-is c.in-Err-Refused.ensures.acts in
    let new : Opened = record done.file { history = done.history } in
    let told = reported new (file_put c.in-Some.place before.used c.act.new.self done.file new done.there done.kept)
    (λ other. (
      done.file.history,
      leads_by target verb c.args.step.request.now.text.now (action_in c.in-Some-action_of.action) done.file.history done.history (Err refusal) requested
          (led_to done.file.history done.history (action_in c.in-Some-action_of.action) c.args.step.request.now.text.now refusal done.keeps other),
    )) in (
      reported_of c.args.journals done.file.name c.args.step.request.now.text.now (Err refusal) told.0,
      refused_answers g.F.Files g.met.F.Files.counts_now c.args.journals target verb c.args.step.request.now.text.now c.in-Some.place (action_in c.in-Some-action_of.action) before (progress_in refuse.new.run)
          c.act.new.self c.args.files.now c.act.new.files requested honest safe free refuse.result refusal done told.0 refuse.ensures.kinds whole
          (λ whole. subst (λ (found : Option Action). AreHints (Err refusal) found done.file.name done.history told.0) requested (told.3 whole)) told.2 refuse.ensures.state,
      told.1,
    ))

pub returns-clause-answers : goal.returns-clause-answers
returns-clause-answers g c = λ honest safe. rw (c.in-Some.is) (
    let free = sym c.is_left_at.ensures ∙ c.if-is_left_at.false in
    let requested = sym c.action_of.ensures ∙ ap (option_map action_in) c.in-Some-action_of.is in
    let target = c.args.step.target.now in
    let verb = (request_in c.args.step.request.now).verb in
    let fault = c.in-Err-Pair.fault in
    let reported = rw (c.in-Err-Pair.field-0-is) at c.leave.ensures.reported in
    let before = progress_in c.args.run.now in
    let done : KeepsAt c.args.journals g.F.Files c.in-Some.place (action_in c.in-Some-action_of.action) c.args.step.request.now.text.now before.used (Err (Pair fault)) c.act.new.self c.args.files.now c.act.new.files =
    subst (λ (it : KeepFault). KeepsAt c.args.journals g.F.Files c.in-Some.place (action_in c.in-Some-action_of.action) c.args.step.request.now.text.now before.used (Err it) c.act.new.self c.args.files.now
    c.act.new.files) c.in-Err-Pair.field-0-is c.in-Err-Pair.ensures.acts in
    let new : Opened = file_left c.args.journals (Err (Pair fault)) done.history done.file in (
      unkept_line done.file.name fault ∷ [],
      unkept_answers g.F.Files g.met.F.Files.counts_now c.args.journals target verb c.args.step.request.now.text.now c.in-Some.place (action_in c.in-Some-action_of.action) before (progress_in c.leave.new.run)
          c.act.new.self c.args.files.now c.act.new.files requested honest safe free c.leave.result fault done (rw (c.in-Err-Pair.field-0-is) at c.leave.ensures.cut) c.leave.ensures.state,
      one_line g.E.Sink c.args.err.now c.leave.new.err (unkept_line done.file.name fault)
          (reported new (file_put c.in-Some.place before.used c.act.new.self done.file new done.there done.kept)),
    ))

pub returns-in-Ok-put_printed-clause-keeps : goal.returns-in-Ok-put_printed-clause-keeps
returns-in-Ok-put_printed-clause-keeps g c = λ kept. inr (
  c.in-Some.place,
  c.in-Some.is,
  free_here c.in-Some.place c.args.journals c.args.run.now.workspace kept (sym c.is_left_at.ensures ∙ c.if-is_left_at.false),
  (
    action_in c.in-Some-action_of.action,
    sym c.action_of.ensures ∙ ap (option_map action_in) c.in-Some-action_of.is,
    (
      _,
      kept_by c.args.journals g.F.Files c.in-Some.place (action_in c.in-Some-action_of.action) c.args.step.request.now.text.now c.args.run.now.workspace _ c.act.new.self c.act.new.self
          c.args.files.now c.act.new.files kept refl c.in-Ok.ensures.acts,
    ),
  ),
)

pub returns-in-Ok-clause-keeps : goal.returns-in-Ok-clause-keeps
returns-in-Ok-clause-keeps g c = λ kept. inr (
  c.in-Some.place,
  c.in-Some.is,
  free_here c.in-Some.place c.args.journals c.args.run.now.workspace kept (sym c.is_left_at.ensures ∙ c.if-is_left_at.false),
  (
    action_in c.in-Some-action_of.action,
    sym c.action_of.ensures ∙ ap (option_map action_in) c.in-Some-action_of.is,
    (
      _,
      kept_by c.args.journals g.F.Files c.in-Some.place (action_in c.in-Some-action_of.action) c.args.step.request.now.text.now c.args.run.now.workspace _ c.act.new.self c.refuse.new.run.workspace
          c.args.files.now c.act.new.files kept (ap (λ (p : Progress). p.used) c.refuse.ensures.state) c.in-Ok.ensures.acts,
    ),
  ),
)

pub returns-in-Err-Refused-clause-keeps : goal.returns-in-Err-Refused-clause-keeps
returns-in-Err-Refused-clause-keeps g c = λ kept. inr (
  c.in-Some.place,
  c.in-Some.is,
  free_here c.in-Some.place c.args.journals c.args.run.now.workspace kept (sym c.is_left_at.ensures ∙ c.if-is_left_at.false),
  (
    action_in c.in-Some-action_of.action,
    sym c.action_of.ensures ∙ ap (option_map action_in) c.in-Some-action_of.is,
    (
      _,
      kept_by c.args.journals g.F.Files c.in-Some.place (action_in c.in-Some-action_of.action) c.args.step.request.now.text.now c.args.run.now.workspace _ c.act.new.self
          c.refuse_action.new.run.workspace c.args.files.now c.act.new.files kept (ap (λ (p : Progress). p.used) c.refuse_action.ensures.state) c.in-Err-Refused.ensures.acts,
    ),
  ),
)

pub returns-clause-keeps : goal.returns-clause-keeps
returns-clause-keeps g c = λ kept. inr (
  c.in-Some.place,
  c.in-Some.is,
  free_here c.in-Some.place c.args.journals c.args.run.now.workspace kept (sym c.is_left_at.ensures ∙ c.if-is_left_at.false),
  (
    action_in c.in-Some-action_of.action,
    sym c.action_of.ensures ∙ ap (option_map action_in) c.in-Some-action_of.is,
    (
      _,
      kept_by c.args.journals g.F.Files c.in-Some.place (action_in c.in-Some-action_of.action) c.args.step.request.now.text.now c.args.run.now.workspace _ c.act.new.self c.leave.new.run.workspace
          c.args.files.now c.act.new.files kept (ap (λ (p : Progress). p.used) c.leave.ensures.state) c.in-Err-Pair.ensures.acts,
    ),
  ),
)

pub refuse-requires : goal.refuse-requires
refuse-requires g c = kept_open c.args.journals g.F.Files c.in-Some.place (action_in c.in-Some-action_of.action) c.args.step.request.now.text.now c.args.run.now.workspace _ c.act.new.self c.args.files.now
    c.act.new.files c.in-Ok.ensures.acts

pub refuse_action-requires : goal.refuse_action-requires
refuse_action-requires g c = kept_open c.args.journals g.F.Files c.in-Some.place (action_in c.in-Some-action_of.action) c.args.step.request.now.text.now c.args.run.now.workspace _ c.act.new.self c.args.files.now
    c.act.new.files c.in-Err-Refused.ensures.acts

pub leave-requires : goal.leave-requires
leave-requires g c = kept_open c.args.journals g.F.Files c.in-Some.place (action_in c.in-Some-action_of.action) c.args.step.request.now.text.now c.args.run.now.workspace _ c.act.new.self c.args.files.now
    c.act.new.files c.in-Err-Pair.ensures.acts

pub note-requires : goal.note-requires
note-requires g c = kept_open c.args.journals g.F.Files c.in-Some.place (action_in c.in-Some-action_of.action) c.args.step.request.now.text.now c.args.run.now.workspace _ c.act.new.self c.args.files.now
    c.act.new.files c.in-Ok.ensures.acts

pub returns-in_default-clause-grows : goal.returns-in_default-clause-grows
returns-in_default-clause-grows g c = grows_none (g.F.Files.acts c.args.files.now)

pub returns-then-is_left_at-clause-grows : goal.returns-then-is_left_at-clause-grows
returns-then-is_left_at-clause-grows g c = grows_none (g.F.Files.acts c.args.files.now)

pub returns-in_default-action_of-clause-grows : goal.returns-in_default-action_of-clause-grows
returns-in_default-action_of-clause-grows g c = grows_none (g.F.Files.acts c.args.files.now)

pub returns-in-Ok-put_printed-clause-grows : goal.returns-in-Ok-put_printed-clause-grows
returns-in-Ok-put_printed-clause-grows g c = c.act.ensures.grows

pub returns-in-Ok-clause-grows : goal.returns-in-Ok-clause-grows
returns-in-Ok-clause-grows g c = c.act.ensures.grows

pub returns-in-Err-Refused-clause-grows : goal.returns-in-Err-Refused-clause-grows
returns-in-Err-Refused-clause-grows g c = c.act.ensures.grows

pub returns-clause-grows : goal.returns-clause-grows
returns-clause-grows g c = c.act.ensures.grows
