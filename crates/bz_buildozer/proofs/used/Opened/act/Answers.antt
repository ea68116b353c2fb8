use Rattle.bz_buildozer.proofs.Words.{◌==◌, ◌||◌, ◌∙◌, ◌≡◌, action_in, Bool, Bytes, Err, file_left, KeepFault, Keeps, KeepsFile, not, Ok, opened_in, past_history, refl, subst, sym, true≢false}
use Rattle.bz_buildozer.proofs.{ActSteps.marked_written, CourseSteps.kept_course, CourseSteps.stays_course, UnreadSteps.grows_none, UnreadSteps.grows_read}
use Rattle.bz_buildozer.proofs.used.Opened.act.Goals as goal

pub returns-in-Ok-clause-acts : goal.returns-in-Ok-clause-acts
returns-in-Ok-clause-acts g c =
    let file = opened_in c.args.self.now in
    let after = past_history c.act_noted.new.self in (
      after,
      c.in-Ok.ensures.acts,
      subst (λ (b : Bool). record file { history = after } ≡ file_left b (Ok c.in-Ok.reply) after file) (sym c.if-not-journals.true) refl,
      (λ kept. absurd (true≢false (sym kept ∙ c.if-not-journals.true))),
      (λ _. (refl, tt)),
    )

pub returns-in-Err-clause-acts : goal.returns-in-Err-clause-acts
returns-in-Err-clause-acts g c =
    (past_history c.act_noted.new.self, c.in-Err.ensures.acts, refl, (λ kept. absurd (true≢false (sym kept ∙ c.if-not-journals.true))), (λ _. (refl, tt)))

pub returns-in-Ok-keep_noted-clause-acts : goal.returns-in-Ok-keep_noted-clause-acts
returns-in-Ok-keep_noted-clause-acts g c =
    let file = opened_in c.args.self.now in
    let kept = c.keep_noted in
    let after = past_history kept.new.self in
    let reply = c.in-Ok-keep_noted.reply in (
      after,
      c.in-Ok-keep_noted.ensures.keeps,
      subst (λ (b : Bool). record file { history = after; written = file.written || not (c.cursor.result == c.cursor-from.result) } ≡ file_left b (Ok reply) after file) (sym c.if-not-journals.false)
          (marked_written after file c.cursor-from.result c.cursor.result c.cursor-from.ensures c.cursor.ensures),
      (λ _. subst (λ (name : Bytes). KeepsFile g.F.Files name file.history after (Ok reply) c.args.files.now kept.new.files) c.as_str.ensures.value c.in-Ok-keep_noted.ensures.pair),
      (λ plain. absurd (true≢false (sym c.if-not-journals.false ∙ plain))),
    )

pub returns-in-Err-Refused-clause-acts : goal.returns-in-Err-Refused-clause-acts
returns-in-Err-Refused-clause-acts g c =
    let file = opened_in c.args.self.now in
    let kept = c.keep_noted in
    let after = past_history kept.new.self in
    let done = c.in-Err-Refused in (
      after,
      subst (λ (fault : KeepFault). Keeps (action_in c.args.action.now) c.args.note.now file.history (Err fault) after) done.field-0-is done.ensures.keeps,
      refl,
      (λ _. subst (λ (fault : KeepFault). KeepsFile g.F.Files file.name file.history after (Err fault) c.args.files.now kept.new.files) done.field-0-is
          (subst (λ (name : Bytes). KeepsFile g.F.Files name file.history after (Err done.field-0) c.args.files.now kept.new.files) c.as_str.ensures.value done.ensures.pair)),
      (λ plain. absurd (true≢false (sym c.if-not-journals.false ∙ plain))),
    )

pub returns-in-Err-Pair-clause-acts : goal.returns-in-Err-Pair-clause-acts
returns-in-Err-Pair-clause-acts g c =
    let file = opened_in c.args.self.now in
    let kept = c.keep_noted in
    let after = past_history kept.new.self in
    let done = c.in-Err-Pair in (
      after,
      subst (λ (fault : KeepFault). Keeps (action_in c.args.action.now) c.args.note.now file.history (Err fault) after) done.field-0-is done.ensures.keeps,
      refl,
      (λ _. subst (λ (fault : KeepFault). KeepsFile g.F.Files file.name file.history after (Err fault) c.args.files.now kept.new.files) done.field-0-is
          (subst (λ (name : Bytes). KeepsFile g.F.Files name file.history after (Err done.field-0) c.args.files.now kept.new.files) c.as_str.ensures.value done.ensures.pair)),
      (λ plain. absurd (true≢false (sym c.if-not-journals.false ∙ plain))),
    )

pub returns-in-Ok-clause-course : goal.returns-in-Ok-clause-course
returns-in-Ok-clause-course g c = stays_course (action_in c.args.action.now) c.args.note.now c.holds.result c.args.self.now.past c.act_noted.new.self (Ok c.in-Ok.reply) c.args.once
    c.holds.ensures c.in-Ok.ensures.form

pub returns-in-Err-clause-course : goal.returns-in-Err-clause-course
returns-in-Err-clause-course g c = stays_course (action_in c.args.action.now) c.args.note.now c.holds.result c.args.self.now.past c.act_noted.new.self (Err c.in-Err.refusal) c.args.once
    c.holds.ensures c.in-Err.ensures.form

pub returns-in-Ok-keep_noted-clause-course : goal.returns-in-Ok-keep_noted-clause-course
returns-in-Ok-keep_noted-clause-course g c = λ _. kept_course g.F.Files (action_in c.args.action.now) c.args.note.now c.as_str.result.now c.args.self.now.past c.keep_noted.new.self
    (Ok c.in-Ok-keep_noted.reply) c.args.files.now c.keep_noted.new.files c.in-Ok-keep_noted.ensures.form

pub returns-in-Err-Refused-clause-course : goal.returns-in-Err-Refused-clause-course
returns-in-Err-Refused-clause-course g c = λ _. kept_course g.F.Files (action_in c.args.action.now) c.args.note.now c.as_str.result.now c.args.self.now.past c.keep_noted.new.self
    (Err c.in-Err-Refused.field-0) c.args.files.now c.keep_noted.new.files c.in-Err-Refused.ensures.form

pub returns-in-Err-Pair-clause-course : goal.returns-in-Err-Pair-clause-course
returns-in-Err-Pair-clause-course g c = λ _. kept_course g.F.Files (action_in c.args.action.now) c.args.note.now c.as_str.result.now c.args.self.now.past c.keep_noted.new.self
    (Err c.in-Err-Pair.field-0) c.args.files.now c.keep_noted.new.files c.in-Err-Pair.ensures.form

pub returns-in-Ok-clause-grows : goal.returns-in-Ok-clause-grows
returns-in-Ok-clause-grows g c = grows_none (g.F.Files.acts c.args.files.now)

pub returns-in-Err-clause-grows : goal.returns-in-Err-clause-grows
returns-in-Err-clause-grows g c = grows_none (g.F.Files.acts c.args.files.now)

pub returns-in-Ok-keep_noted-clause-grows : goal.returns-in-Ok-keep_noted-clause-grows
returns-in-Ok-keep_noted-clause-grows g c = grows_read (g.F.Files.acts c.args.files.now) (g.F.Files.acts c.keep_noted.new.files) c.keep_noted.ensures.pair.regular

pub returns-in-Err-Refused-clause-grows : goal.returns-in-Err-Refused-clause-grows
returns-in-Err-Refused-clause-grows g c = grows_read (g.F.Files.acts c.args.files.now) (g.F.Files.acts c.keep_noted.new.files) c.keep_noted.ensures.pair.regular

pub returns-in-Err-Pair-clause-grows : goal.returns-in-Err-Pair-clause-grows
returns-in-Err-Pair-clause-grows g c = grows_read (g.F.Files.acts c.args.files.now) (g.F.Files.acts c.keep_noted.new.files) c.keep_noted.ensures.pair.regular
