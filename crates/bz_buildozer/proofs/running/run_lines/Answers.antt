use Rattle.bz_buildozer.proofs.Words.{[], ◌++◌, ◌+◌, ◌∙◌, ◌∷◌, ◌≡◌, All, all_steps, ap, append-nil, AreOfInput, ends_run, false, flat_map, get_or-map, HasPath, input_package, length-map, List, map, progress_in, refl, requested_in, RunStep, spot, subst, sym, take, Target}
use Rattle.bz_command_line.specs.Requested as a
use Rattle.bz_command_line.specs.{declared.requested.Request.Request, declared.requested.Requested.Requested}
use Rattle.bz_buildozer.proofs.FailSteps.{one_runs}
use Rattle.bz_buildozer.proofs.RunSteps.{Done, done_none, done_more, done_early, taken_at, all_taken, part_last, all_at, lines_before, on_target, one_line_more, one_more, steps_left, steps_on}
use Rattle.bz_buildozer.proofs.running.run_lines.Goals as goal
use Rattle.bz_buildozer.proofs.running.run_lines.Goals.{else-run-via-then-run+else-not-options, else-run-via-else-run}

abbrev IsOfInput : Requested → Type 0
IsOfInput line = All (λ (target : Target). target.«package» ≡ input_package) line.targets.items

each_line : (lines : List Requested) → AreOfInput (map requested_in lines) → All IsOfInput lines
each_line lines all k d within = subst (λ (requested : a.Requested). All (λ target. target.«package» ≡ input_package) requested.targets)
    (get_or-map requested_in lines k d (requested_in d) within) (all k (requested_in d) (rw (length-map) within))

pub loop-line-init : goal.loop-line-init
loop-line-init g c = done_none c.args.options.journal (AreOfInput (map requested_in c.args.lines.now)) c.args.options.keep_going
    (spot g.R.Source g.F.Files g.E.Sink c.args.run.now c.args.input.now c.args.files.now c.args.err.now)

pub loop-target-init : goal.loop-target-init
loop-target-init g c =
    let l = c.loop-line in
    subst (λ (steps : List RunStep). Done c.args.options.journal (AreOfInput (map requested_in c.args.lines.now)) c.args.options.keep_going steps l.cut
    (spot g.R.Source g.F.Files g.E.Sink c.args.run.now c.args.input.now c.args.files.now c.args.err.now) (spot g.R.Source g.F.Files g.E.Sink l.run l.input l.files l.err))
    (sym (append-nil (lines_before l.line-index c.args.lines.now))) l.invariant

pub loop-request-init : goal.loop-request-init
loop-request-init g c =
    let l = c.loop-target in
    let line = c.line-item.result in
    let front = flat_map (on_target line.commands.items) (take l.target-index line.targets.items) in
    subst (λ (steps : List RunStep). Done c.args.options.journal (AreOfInput (map requested_in c.args.lines.now)) c.args.options.keep_going
    (lines_before c.loop-line.line-index c.args.lines.now ++ steps) l.cut
    (spot g.R.Source g.F.Files g.E.Sink c.args.run.now c.args.input.now c.args.files.now c.args.err.now) (spot g.R.Source g.F.Files g.E.Sink l.run l.input l.files l.err))
    (sym (append-nil front)) l.invariant

pub do_step-later-requires : goal.do_step-later-requires
do_step-later-requires g c = all_at HasPath c.line-item.result.targets.items c.deref-target-items.result.now c.loop-target.target-index c.target-item.result
    c.deref-target-items.ensures.value c.loop-target-test.true c.target-item.is (all_at (λ (line : Requested). All HasPath line.targets.items) c.args.lines.now c.args.lines.now
    c.loop-line.line-index c.line-item.result refl c.loop-line-test.true c.line-item.is c.requires.paths)

pub returns-then-not-options : goal.returns-then-not-options
returns-then-not-options g c =
    let l = c.loop-request in
    let line = c.line-item.result in
    let failed = c.if-run.true in
    let stops = c.if-not-options.true in
    let left = steps_left c.args.lines.now c.loop-line.line-index line c.deref-target-items.result.now c.loop-target.target-index c.target-item.result l.request-index
    c.loop-line-test.true c.line-item.is c.deref-target-items.ensures.value c.loop-target-test.true c.target-item.is in
    done_early c.args.options.journal (AreOfInput (map requested_in c.args.lines.now)) c.args.options.keep_going (all_steps (map requested_in c.args.lines.now)) _ left.0 l.cut
    (spot g.R.Source g.F.Files g.E.Sink c.args.run.now c.args.input.now c.args.files.now c.args.err.now) (spot g.R.Source g.F.Files g.E.Sink l.run l.input l.files l.err)
    (rw (failed, stops) refl) left.1 l.invariant

pub loop-request-preserved : goal.loop-request-preserved
loop-request-preserved g c =
    let l = c.loop-request in
    let e = c.do_step-later in
    let line = c.line-item.result in
    let target = c.target-item.result in
    let commands = line.commands.items in
    let held = c.deref-request-items.result.now in
    let item = c.request-item.result in
    let lines = c.args.lines.now in
    let old = spot g.R.Source g.F.Files g.E.Sink c.args.run.now c.args.input.now c.args.files.now c.args.err.now in
    let mid = spot g.R.Source g.F.Files g.E.Sink l.run l.input l.files l.err in
    let new = spot g.R.Source g.F.Files g.E.Sink e.new.run e.new.input e.new.files e.new.err in
    let front = flat_map (on_target commands) (take c.loop-target.target-index line.targets.items) in
    let on : ends_run c.args.options.keep_going (progress_in l.run) ≡ false = elim c.else-run.branch [
      | else-run-via-then-run+else-not-options w ↦ (let failed = w.if-run.true in let goes = w.if-not-options.false in rw (failed, goes) refl)
      | else-run-via-else-run w ↦ (let works = w.if-run.false in rw (works) refl)
    ] in
    let done : Done c.args.options.journal (target.«package» ≡ input_package) c.args.options.keep_going (on_target (item ∷ []) target) e.result mid new = record {
      does = λ can safe known acts left among.
          let does = e.ensures.does can safe known acts left among in (
            does.0,
            one_runs e.result c.args.options.journal (record { folder = mid.folder; known = known; acts = acts }) c.args.options.keep_going _ mid.state new.state does.0 new.folder on does.1,
            does.2,
            does.3,
          );
      safely = e.ensures.safely;
      unread = e.ensures.unread;
      works = e.ensures.works;
      sound = e.ensures.sound;
      cut = e.ensures.cut;
      read_faults = e.ensures.read_faults;
      counts = e.ensures.counts;
      grows = e.ensures.grows;
      honest = e.ensures.honest;
    } in
    rw (c.first_cut-cut.ensures) (done_more c.args.options.journal (AreOfInput (map requested_in lines)) (target.«package» ≡ input_package) c.args.options.keep_going _
    (lines_before c.loop-line.line-index lines ++ (front ++ on_target (take l.request-index commands) target)) (on_target (item ∷ []) target) l.cut e.result old mid new
    (λ all. all_at (λ (on : Target). on.«package» ≡ input_package) line.targets.items c.deref-target-items.result.now c.loop-target.target-index target
    c.deref-target-items.ensures.value c.loop-target-test.true c.target-item.is
    (all_at IsOfInput lines lines c.loop-line.line-index line refl c.loop-line-test.true c.line-item.is (each_line lines all)))
    (one_more (lines_before c.loop-line.line-index lines) front (on_target (take l.request-index commands) target) (on_target (item ∷ []) target) _
    (ap (λ (these : List Request). on_target these target) (taken_at commands held l.request-index item c.deref-request-items.ensures.value c.loop-request-test.true c.request-item.is)
    ∙ steps_on target (take l.request-index commands) (item ∷ []))) l.invariant done)

pub loop-target-preserved : goal.loop-target-preserved
loop-target-preserved g c =
    let l = c.loop-request in
    let line = c.line-item.result in
    let at = c.loop-target.target-index in
    let target = c.target-item.result in
    let commands = line.commands.items in
    let targets = line.targets.items in
    let lines = c.args.lines.now in
    subst (λ (steps : List RunStep). Done c.args.options.journal (AreOfInput (map requested_in lines)) c.args.options.keep_going
    (lines_before c.loop-line.line-index lines ++ steps) l.cut (spot g.R.Source g.F.Files g.E.Sink c.args.run.now c.args.input.now c.args.files.now c.args.err.now)
    (spot g.R.Source g.F.Files g.E.Sink l.run l.input l.files l.err))
    (ap (λ (these : List Request). flat_map (on_target commands) (take at targets) ++ on_target these target)
    (all_taken commands c.deref-request-items.result.now l.request-index c.deref-request-items.ensures.value c.loop-request-test.false)
    ∙ sym (ap (flat_map (on_target commands)) (taken_at targets c.deref-target-items.result.now at target c.deref-target-items.ensures.value c.loop-target-test.true c.target-item.is)
    ∙ part_last (on_target commands) (take at targets) target)) l.invariant

pub loop-line-preserved : goal.loop-line-preserved
loop-line-preserved g c =
    let l = c.loop-target in
    let line = c.line-item.result in
    let lines = c.args.lines.now in
    subst (λ (steps : List RunStep). Done c.args.options.journal (AreOfInput (map requested_in lines)) c.args.options.keep_going steps l.cut
    (spot g.R.Source g.F.Files g.E.Sink c.args.run.now c.args.input.now c.args.files.now c.args.err.now) (spot g.R.Source g.F.Files g.E.Sink l.run l.input l.files l.err))
    (ap (λ (these : List Target). lines_before c.loop-line.line-index lines ++ flat_map (on_target line.commands.items) these)
    (all_taken line.targets.items c.deref-target-items.result.now l.target-index c.deref-target-items.ensures.value c.loop-target-test.false)
    ∙ sym (one_line_more lines c.loop-line.line-index line c.loop-line-test.true c.line-item.is)) l.invariant

pub returns : goal.returns
returns g c =
    let l = c.loop-line in
    let lines = c.args.lines.now in
    subst (λ (all : List Requested). Done c.args.options.journal (AreOfInput (map requested_in lines)) c.args.options.keep_going (all_steps (map requested_in all)) l.cut
    (spot g.R.Source g.F.Files g.E.Sink c.args.run.now c.args.input.now c.args.files.now c.args.err.now)
    (spot g.R.Source g.F.Files g.E.Sink l.run l.input l.files l.err)) (all_taken lines lines l.line-index refl c.loop-line-test.false) l.invariant
