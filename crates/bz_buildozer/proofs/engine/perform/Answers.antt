use Rattle.bz_buildozer.proofs.Words.{[], ◌∙◌, all_steps, and_parts, ap, Exit, inl, inr, IsMeanwhile, IsMomentOfSteps, LinesEnd, map, names_input, no_journal_line, OneStep, OrOutOfMemory, PassesBy, Progress, progress_in, refl, requested_in, subst, sym, true≢false, World}
use Rattle.bz_streams.specs.declared.exit.Cut.TheVariants as cut
use Rattle.bz_buildozer.proofs.{CutSteps.read_before, FailSteps.one_line, Outcomes.unused_yet, Outcomes.ends_refused, Outcomes.ends_unused, Outcomes.lines_premise, Outcomes.begins_safely, Outcomes.honest_still, Outcomes.lines_end, Outcomes.no_more_time, Outcomes.no_time, StepLists.shown_by_lines, UnreadSteps.among_first}
use Rattle.bz_buildozer.proofs.engine.perform.Goals as goal

pub returns-then-lacks_journal-clause-ends : goal.returns-then-lacks_journal-clause-ends
returns-then-lacks_journal-clause-ends g c premise acts among =
    let world : World = record { folder = g.F.Files.folder c.args.files.now; known = g.R.Source.remaining c.args.input.now; acts = acts } in
    ends_unused g.W.Sink g.E.Sink g.F.Files (record { status = 1; cut = cut.Whole }) world c.args.out.now c.args.err.now c.report_pieces.new.err c.args.files.now refl
    (OrOutOfMemory world (LinesEnd c.args.job.options (map requested_in c.args.lines.now) world)) no_journal_line
    (inr (inl (sym c.lacks_journal.ensures ∙ c.if-lacks_journal.true, refl))) refl
    (one_line g.E.Sink c.args.err.now c.report_pieces.new.err no_journal_line c.report_pieces.ensures)

pub returns-then-lacks_journal-clause-usage : goal.returns-then-lacks_journal-clause-usage
returns-then-lacks_journal-clause-usage g c is =
    let both = and_parts c.args.job.options.journal (names_input (map requested_in c.args.lines.now)) (sym c.lacks_journal.ensures ∙ c.if-lacks_journal.true) in (
      both.0,
      both.1,
      one_line g.E.Sink c.args.err.now c.report_pieces.new.err no_journal_line c.report_pieces.ensures,
    )

pub returns-then-lacks_journal-clause-moments : goal.returns-then-lacks_journal-clause-moments
returns-then-lacks_journal-clause-moments g c kept honest = no_time g.F.Files.moment g.F.Files.since c.args.files.now c.args.files.now
    (IsMomentOfSteps (g.F.Files.folder c.args.files.now) (all_steps (map requested_in c.args.lines.now)) []) refl

pub returns-in_default-clause-ends : goal.returns-in_default-clause-ends
returns-in_default-clause-ends g c premise acts among =
    let world : World = record { folder = g.F.Files.folder c.args.files.now; known = g.R.Source.remaining c.args.input.now; acts = acts } in
    ends_refused g.W.Sink g.E.Sink g.F.Files c.out_of_memory.result world c.args.out.now c.args.err.now c.out_of_memory.new.err c.args.files.now refl
    (LinesEnd c.args.job.options (map requested_in c.args.lines.now) world) c.note_root.new.err c.in_default.ensures.err c.out_of_memory.ensures.exit c.out_of_memory.ensures.reported

pub returns-in_default-clause-moments : goal.returns-in_default-clause-moments
returns-in_default-clause-moments g c kept honest = no_time g.F.Files.moment g.F.Files.since c.args.files.now c.args.files.now
    (IsMomentOfSteps (g.F.Files.folder c.args.files.now) (all_steps (map requested_in c.args.lines.now)) []) refl

pub returns-in_default-clause-usage : goal.returns-in_default-clause-usage
returns-in_default-clause-usage g c is = absurd (let e = sym (ap (λ (exit : Exit). exit.status) c.out_of_memory.ensures.exit) ∙ is in cc)

pub returns-in_default-clause-reads_nothing : goal.returns-in_default-clause-reads_nothing
returns-in_default-clause-reads_nothing g c kept = (refl, refl, λ is. absurd (let e = sym (ap (λ (exit : Exit). exit.cut) c.out_of_memory.ensures.exit) ∙ is in cc))

pub returns-clause-unread : goal.returns-clause-unread
returns-clause-unread g c kept named =
    let neither = sym c.lacks_journal.ensures ∙ c.if-lacks_journal.false in
    absurd (true≢false (sym (rw (kept, named) refl) ∙ neither))

pub returns-clause-ends : goal.returns-clause-ends
returns-clause-ends g c given acts among =
    let ran = c.run_lines-cut in
    let options = c.args.job.options in
    let lines = map requested_in c.args.lines.now in
    let folder = g.F.Files.folder in
    let is_honest = g.F.Files.honest c.args.files.now in
    let known = g.R.Source.remaining c.args.input.now in
    let world : World = record { folder = folder c.args.files.now; known = known; acts = acts } in
    let start = progress_in c.begun-run.result in
    let state = progress_in ran.new.run in
    let neither = sym c.lacks_journal.ensures ∙ c.if-lacks_journal.false in
    let can = lines_premise is_honest options.journal lines neither given in
    let done = ran.ensures.does can (λ kept. begins_safely (folder c.args.files.now) start c.begun-run.ensures.begins) known acts (λ _. refl)
    (among_first (g.F.Files.acts c.args.files.now) (g.F.Files.acts ran.new.files) (g.F.Files.acts c.finish.new.files) acts c.finish.ensures.grows among) in
    let ends = c.finish.ensures.ends (honest_still is_honest (g.F.Files.honest ran.new.files) options.journal ran.result world options.keep_going lines start done.0
    (folder ran.new.files) state ran.ensures.honest c.begun-run.ensures.begins done.1 can) in
    lines_end g.W.Sink g.E.Sink g.F.Files options lines world start state (folder ran.new.files) done.0 ends.2 c.finish.result ran.result ends.1 ends.0
    c.shows_input-shown.result c.args.out.now c.finish.new.out c.args.err.now c.note_root.new.err ran.new.err c.finish.new.err c.finish.new.files neither c.begun-run.ensures.begins done.1 ends.3 ends.6
    c.finish.ensures.status (λ whole. (c.finish.ensures.whole whole).0) (c.shows_input-shown.ensures ∙ sym (shown_by_lines c.args.lines.now)) ends.4
    (c.in-Ok.ensures.ok given) done.3 ends.5

pub returns-clause-reads_nothing : goal.returns-clause-reads_nothing
returns-clause-reads_nothing g c kept =
    let unread = c.run_lines-cut.ensures.unread kept in
    (unread.0, unread.1, λ is. unread.2 (read_before c.finish.result.cut c.run_lines-cut.result _ c.finish.ensures.cause is))

pub returns-clause-moments : goal.returns-clause-moments
returns-clause-moments g c kept honest =
    let ran = c.run_lines-cut in
    let files = g.F.Files in
    let folder = files.folder c.args.files.now in
    let steps = all_steps (map requested_in c.args.lines.now) in
    let begun_is = c.begun-run.ensures.begins in
    let done = ran.ensures.safely kept honest folder (begins_safely folder (progress_in c.begun-run.result) begun_is)
    (subst (λ (from : Progress). IsMeanwhile folder from.used from.used folder) (sym begun_is) (unused_yet folder)) in
    no_more_time files.moment files.since c.args.files.now ran.new.files c.finish.new.files (IsMomentOfSteps folder steps []) (c.finish.ensures.kept kept)
    (subst (λ (from : Progress). PassesBy files (IsMomentOfSteps folder steps from.used) c.args.files.now ran.new.files) begun_is done.2)

pub returns-clause-sound : goal.returns-clause-sound
returns-clause-sound g c sound is =
    c.run_lines-cut.ensures.works sound (read_before c.finish.result.cut c.run_lines-cut.result _ c.finish.ensures.cause is)

pub run_lines-cut-requires-clause-once : goal.run_lines-cut-requires-clause-once
run_lines-cut-requires-clause-once g c is = c.are_one_step.ensures (sym (ap (λ (once : OneStep). once.holds) c.begun-run.ensures.once) ∙ is)
