use Rattle.bz_buildozer.proofs.Words.{◌∙◌, All, ap, fault_line, HasPath, inl, input_line, inr, List, map, no_journal_line, OrOutOfMemory, refl, ReportsLine, requested_in, script_usage_in, subst, sym, TextOutcome, unused, Usage, usage_line, World, ℕ}
use Rattle.bz_command_line.specs.declared.requested.Requested.{Requested}
use Rattle.bz_streams.specs.declared.exit.Cut.TheVariants as cut
use Rattle.bz_buildozer.proofs.FailSteps.{one_line}
use Rattle.bz_buildozer.proofs.Outcomes.{IsMomentOfText, by_text, ends_more, ends_told, ends_unused, no_journal, text_lines, text_unused, told_found, no_time}
use Rattle.bz_buildozer.proofs.StandSteps.{not_input}
use Rattle.bz_buildozer.proofs.engine.run_text.Goals as goal

pub returns-in-Err-clause-usage : goal.returns-in-Err-clause-usage
returns-in-Err-clause-usage g c is = (
  fault_line c.reported_name.result.now c.in-Err.fault,
  (λ world. inl (c.in-Err.fault, c.in-Err.ensures.err, ap (λ (name : List ℕ). unused world.folder (fault_line name c.in-Err.fault)) c.reported_name.ensures)),
  one_line g.E.Sink c.args.err.now c.report_fault.new.err (fault_line c.reported_name.result.now c.in-Err.fault) c.report_fault.ensures,
)

pub returns-then-edits_input-clause-usage : goal.returns-then-edits_input-clause-usage
returns-then-edits_input-clause-usage g c is = (
  input_line,
  (λ world. text_lines c.args.job.options c.args.read.name.now c.args.read.bytes.now c.in-Ok.text.now world (map requested_in c.in-Ok-read_script.lines.items)
      (map requested_in c.as_slice-lines.result.now) (unused world.folder input_line) c.in-Ok.ensures.ok.0 c.in-Ok.ensures.ok.1 c.in-Ok-read_script.ensures.ok
      (ap (map requested_in) c.as_slice-lines.ensures.value) (inl (sym c.edits_input.ensures ∙ c.if-edits_input.true, refl))),
  one_line g.E.Sink c.args.err.now c.report_pieces.new.err input_line
      c.report_pieces.ensures,
)

pub returns-in-Err-read_script-clause-usage : goal.returns-in-Err-read_script-clause-usage
returns-in-Err-read_script-clause-usage g c is =
    let found = script_usage_in c.in-Err-read_script.fault in
    let file = c.reported_name-in-Err-read_script.result.now in
    let e = c.report_script in
    let end = c.unused in
    let it = told_found e.result end.result found e.new.err end.new.err (λ (usage : Usage). λ now. ReportsLine g.E.Sink c.args.err.now now (usage_line file usage)) _ is
    e.ensures.some e.ensures.reported end.ensures.ok end.ensures.err in (
      usage_line file it.0,
      (λ world. text_unused c.args.job.options c.args.read.name.now c.args.read.bytes.now c.in-Ok.text.now file (usage_line file it.0) world found it.0 c.in-Ok.ensures.ok.0 c.in-Ok.ensures.ok.1
          c.in-Err-read_script.ensures.err it.1 c.reported_name-in-Err-read_script.ensures refl),
      one_line g.E.Sink c.args.err.now end.new.err (usage_line file it.0) it.2,
    )

pub returns-in-Err-clause-ends : goal.returns-in-Err-clause-ends
returns-in-Err-clause-ends g c honest known acts before among =
    let world : World = record { folder = g.F.Files.folder c.args.files.now; known = known; acts = acts } in
    let told = returns-in-Err-clause-usage g c refl in
    ends_unused g.W.Sink g.E.Sink g.F.Files (record { status = 1; cut = cut.Whole }) world c.args.out.now c.args.err.now c.report_fault.new.err c.args.files.now refl
    (OrOutOfMemory world (TextOutcome c.args.job.options c.args.read.name.now c.args.read.bytes.now world)) told.0 (inr (told.1 world)) refl told.2

pub perform-requires : goal.perform-requires
perform-requires g c =
    subst (λ (lines : List Requested). All (λ (requested : Requested). All HasPath requested.targets.items) lines) (sym c.as_slice-lines.ensures.value) c.in-Ok-read_script.ensures.paths

pub returns-then-edits_input-clause-ends : goal.returns-then-edits_input-clause-ends
returns-then-edits_input-clause-ends g c honest known acts before among =
    let world : World = record { folder = g.F.Files.folder c.args.files.now; known = known; acts = acts } in
    let told = returns-then-edits_input-clause-usage g c refl in
    ends_unused g.W.Sink g.E.Sink g.F.Files (record { status = 1; cut = cut.Whole }) world c.args.out.now c.args.err.now c.report_pieces.new.err c.args.files.now refl
    (OrOutOfMemory world (TextOutcome c.args.job.options c.args.read.name.now c.args.read.bytes.now world)) told.0 (inr (told.1 world)) refl told.2

pub returns-clause-ends : goal.returns-clause-ends
returns-clause-ends g c honest known acts before among =
    let options = c.args.job.options in
    let name = c.args.read.name.now in
    let left_over = g.R.Source.remaining c.args.input.now in
    let world : World = record { folder = g.F.Files.folder c.args.files.now; known = known; acts = acts } in
    ends_more g.W.Sink g.E.Sink g.F.Files c.perform.result _ _ c.args.out.now c.perform.new.out c.args.err.now c.perform.new.err c.perform.new.files
    (λ ended ends. elim ends [
      | inl memory ↦ inl memory
      | inr is ↦ inr (text_lines options name c.args.read.bytes.now c.in-Ok.text.now world (map requested_in c.in-Ok-read_script.lines.items)
          (map requested_in c.as_slice-lines.result.now) ended c.in-Ok.ensures.ok.0 c.in-Ok.ensures.ok.1 c.in-Ok-read_script.ensures.ok
          (ap (map requested_in) c.as_slice-lines.ensures.value)
          (inr (sym c.edits_input.ensures ∙ c.if-edits_input.false, (left_over, (λ other. sym (before (not_input name other))), is))))
    ])
    (c.perform.ensures.ends (inl honest) acts among)

pub returns-in-Err-read_script-clause-ends : goal.returns-in-Err-read_script-clause-ends
returns-in-Err-read_script-clause-ends g c honest known acts before among =
    let world : World = record { folder = g.F.Files.folder c.args.files.now; known = known; acts = acts } in
    let e = c.report_script in
    let end = c.unused in
    ends_told g.W.Sink g.E.Sink g.F.Files end.result world c.args.out.now c.args.err.now end.new.err c.args.files.now refl
    (TextOutcome c.args.job.options c.args.read.name.now c.args.read.bytes.now world) e.result e.new.err
    (λ is. let told = returns-in-Err-read_script-clause-usage g c is in (told.0, told.1 world, told.2)) e.ensures.refused end.ensures.ok end.ensures.err

pub returns-clause-usage : goal.returns-clause-usage
returns-clause-usage g c is =
    let told = c.perform.ensures.usage is in
    let lines = map requested_in c.as_slice-lines.result.now in (
      no_journal_line,
      (λ world. text_lines c.args.job.options c.args.read.name.now c.args.read.bytes.now c.in-Ok.text.now world (map requested_in c.in-Ok-read_script.lines.items) lines
          (unused world.folder no_journal_line) c.in-Ok.ensures.ok.0 c.in-Ok.ensures.ok.1 c.in-Ok-read_script.ensures.ok (ap (map requested_in) c.as_slice-lines.ensures.value)
          (inr (sym c.edits_input.ensures ∙ c.if-edits_input.false, (world.known, (λ _. refl), no_journal c.args.job.options lines world told.0 told.1)))),
      told.2,
    )

pub returns-clause-unread_kept : goal.returns-clause-unread_kept
returns-clause-unread_kept g c kept = let still = c.perform.ensures.reads_nothing kept in (still.0, still.1)

pub returns-in-Err-clause-moments : goal.returns-in-Err-clause-moments
returns-in-Err-clause-moments g c kept honest = no_time g.F.Files.moment g.F.Files.since c.args.files.now c.args.files.now
    (IsMomentOfText c.args.job.options.profile (g.F.Files.folder c.args.files.now) c.args.read.bytes.now) refl

pub returns-then-edits_input-clause-moments : goal.returns-then-edits_input-clause-moments
returns-then-edits_input-clause-moments g c kept honest = no_time g.F.Files.moment g.F.Files.since c.args.files.now c.args.files.now
    (IsMomentOfText c.args.job.options.profile (g.F.Files.folder c.args.files.now) c.args.read.bytes.now) refl

pub returns-clause-moments : goal.returns-clause-moments
returns-clause-moments g c kept honest =
    by_text g.F.Files c.args.files.now c.perform.new.files c.args.job.options.profile c.args.read.bytes.now c.in-Ok.text.now (map requested_in c.in-Ok-read_script.lines.items)
    (map requested_in c.as_slice-lines.result.now) c.in-Ok.ensures.ok.0 c.in-Ok.ensures.ok.1 c.in-Ok-read_script.ensures.ok (ap (map requested_in) c.as_slice-lines.ensures.value)
    (c.perform.ensures.moments kept honest)

pub returns-in-Err-read_script-clause-moments : goal.returns-in-Err-read_script-clause-moments
returns-in-Err-read_script-clause-moments g c kept honest = no_time g.F.Files.moment g.F.Files.since c.args.files.now c.args.files.now
    (IsMomentOfText c.args.job.options.profile (g.F.Files.folder c.args.files.now) c.args.read.bytes.now) refl
