use Rattle.bz_buildozer.proofs.Words.{◌∙◌, ◌≡◌, acts_over, ap, appends_nothing, Cut, Cut as cut, Folder, inr, List, refl, reported_name, ReportsLine, subst, sym, unread, unread_line, World, ℕ}
use Rattle.bz_buildozer.proofs.{FailSteps.one_line, FailSteps.unread_either, Outcomes.by_no_script, Outcomes.by_script, Outcomes.ends_more, Outcomes.exit_of, Outcomes.script_done, Outcomes.script_missing, Outcomes.script_unused, Outcomes.no_more_time, ReadSteps.script_read, UnreadSteps.among_all, UnreadSteps.among_second}
use Rattle.bz_buildozer.proofs.engine.run_script.Goals as goal

pub returns-in-Err-clause-ends : goal.returns-in-Err-clause-ends
returns-in-Err-clause-ends g c honest = (
  unread c.in-Err.cut c.args.name.now (g.F.Files.folder c.args.files.now),
  inr (inr (refl, c.in-Err.ensures.err.1, (λ whole. c.in-Err.ensures.err.0 whole honest))),
  record {
    exit_is = exit_of c.report_unread.result c.in-Err.cut c.report_unread.ensures.status c.report_unread.ensures.cut;
    folder = c.read_bytes.ensures.folder honest;
    output = appends_nothing (g.W.Sink.contents c.args.out.now);
    lines = one_line g.E.Sink c.args.err.now c.report_unread.new.err _
        (subst (λ (name : List ℕ). ReportsLine g.E.Sink c.args.err.now c.report_unread.new.err (unread_line name c.in-Err.cut)) c.reported_name.ensures
        c.report_unread.ensures.reported);
  },
)

pub returns-in-Ok-clause-ends : goal.returns-in-Ok-clause-ends
returns-in-Ok-clause-ends g c honest =
    let known = g.R.Source.remaining c.args.input.now in
    let world : World = record { folder = g.F.Files.folder c.args.files.now; known = known; acts = acts_over g.F.Files c.args.files.now c.run_text.new.files } in
    let read = script_read world c.args.name.now c.in-Ok.bytes.items (c.in-Ok.ensures.ok.0 honest) in
    ends_more g.W.Sink g.E.Sink g.F.Files c.run_text.result _ _ c.args.out.now c.run_text.new.out c.args.err.now c.run_text.new.err c.run_text.new.files
    (λ ended. script_done c.args.job.options c.args.name.now read.0 c.in-Ok.bytes.items c.deref.result.now (g.F.Files.folder c.args.files.now)
    (g.F.Files.folder c.read_bytes.new.files) known (acts_over g.F.Files c.args.files.now c.run_text.new.files) ended c.deref.ensures.value (c.read_bytes.ensures.folder honest) read.1 read.2)
    (c.run_text.ensures.ends (c.read_bytes.ensures.honest ∙ honest) known (acts_over g.F.Files c.args.files.now c.run_text.new.files)
    (λ other. ap g.R.Source.remaining (sym (c.read_bytes.ensures.input other)))
    (among_second (g.F.Files.acts c.args.files.now) (g.F.Files.acts c.read_bytes.new.files) (g.F.Files.acts c.run_text.new.files)
    (acts_over g.F.Files c.args.files.now c.run_text.new.files) c.read_bytes.ensures.grows
    (among_all (g.F.Files.acts c.args.files.now) (g.F.Files.acts c.run_text.new.files))))

pub returns-in-Err-clause-usage : goal.returns-in-Err-clause-usage
returns-in-Err-clause-usage g c is is_whole =
    let whole = sym c.report_unread.ensures.cut ∙ is_whole in
    let name = c.args.name.now in (
      unread_line (reported_name name) cut.Whole,
      script_missing (g.F.Files.honest c.args.files.now) (record { folder = g.F.Files.folder c.args.files.now; known = g.R.Source.remaining c.args.input.now; acts = acts_over g.F.Files c.args.files.now c.read_bytes.new.files }) c.args.job.options name
          (c.in-Err.ensures.err.0 whole) (c.in-Err.ensures.absent whole),
      one_line g.E.Sink c.args.err.now c.report_unread.new.err _
          (subst (λ (called : List ℕ). ReportsLine g.E.Sink c.args.err.now c.report_unread.new.err (unread_line called cut.Whole)) c.reported_name.ensures
          (subst (λ (it : Cut). ReportsLine g.E.Sink c.args.err.now c.report_unread.new.err (unread_line c.reported_name.result.now it)) whole c.report_unread.ensures.reported)),
    )

pub returns-in-Err-clause-status : goal.returns-in-Err-clause-status
returns-in-Err-clause-status g c = λ cut. unread_either c.report_unread.result.status c.in-Err.cut c.report_unread.ensures.status

pub returns-in-Ok-clause-usage : goal.returns-in-Ok-clause-usage
returns-in-Ok-clause-usage g c is is_whole =
    let told = c.run_text.ensures.usage is in (
      told.0,
      script_unused (g.F.Files.honest c.args.files.now) (record { folder = g.F.Files.folder c.args.files.now; known = g.R.Source.remaining c.args.input.now; acts = acts_over g.F.Files c.args.files.now c.run_text.new.files }) c.args.job.options
          c.args.name.now c.in-Ok.bytes.items c.deref.result.now told.0 c.deref.ensures.value c.in-Ok.ensures.ok.0 told.1,
      told.2,
    )

pub returns-in-Ok-clause-unused_time : goal.returns-in-Ok-clause-unused_time
returns-in-Ok-clause-unused_time g c is honest =
    no_more_time g.F.Files.moment g.F.Files.since c.args.files.now c.read_bytes.new.files c.run_text.new.files
    (λ (now : Folder). now ≡ g.F.Files.folder c.args.files.now) (c.run_text.ensures.unused is).2 (c.read_bytes.ensures.time honest)

pub returns-in-Err-clause-unread_kept : goal.returns-in-Err-clause-unread_kept
returns-in-Err-clause-unread_kept g c kept other =
    let same = c.read_bytes.ensures.input other in (ap g.R.Source.remaining same, ap g.R.Source.faults same)

pub returns-in-Ok-clause-unread_kept : goal.returns-in-Ok-clause-unread_kept
returns-in-Ok-clause-unread_kept g c kept other =
    let same = c.read_bytes.ensures.input other in
    let still = c.run_text.ensures.unread_kept kept in
    (still.0 ∙ ap g.R.Source.remaining same, still.1 ∙ ap g.R.Source.faults same)

pub returns-in-Err-clause-moments : goal.returns-in-Err-clause-moments
returns-in-Err-clause-moments g c kept honest =
    by_no_script g.F.Files c.args.files.now c.read_bytes.new.files c.args.job.options.profile (g.R.Source.remaining c.args.input.now) c.args.name.now (c.read_bytes.ensures.time honest)

pub returns-in-Ok-clause-moments : goal.returns-in-Ok-clause-moments
returns-in-Ok-clause-moments g c kept honest =
    let world : World = record { folder = g.F.Files.folder c.args.files.now; known = g.R.Source.remaining c.args.input.now; acts = acts_over g.F.Files c.args.files.now c.run_text.new.files } in
    let read = script_read world c.args.name.now c.in-Ok.bytes.items (c.in-Ok.ensures.ok.0 honest) in
    by_script g.F.Files c.args.files.now c.run_text.new.files c.args.job.options.profile (g.R.Source.remaining c.args.input.now) c.args.name.now read.0 c.in-Ok.bytes.items c.deref.result.now
    c.read_bytes.new.files (c.read_bytes.ensures.folder honest) c.deref.ensures.value read.1 read.2 (c.read_bytes.ensures.time honest)
    (c.run_text.ensures.moments kept (c.read_bytes.ensures.honest ∙ honest))

pub returns-in-Ok-clause-sound : goal.returns-in-Ok-clause-sound
returns-in-Ok-clause-sound g c sound = c.run_text.ensures.sound (c.read_bytes.ensures.sound ∙ sound)
