use Rattle.bz_buildifier.proofs.Words.{[], ◌+◌, ◌∙◌, ◌∷◌, ◌≡◌, ap, appends_nothing, arith, Bool, Bor, codes, counts_more, drop, drop_all, get_or, inl, inr, List, map, named_line, none_read, reads_on, refl, reports_more, seen_line, subst, sym, true, WritesUnlessClosed, ℕ}
use Rattle.bz_buildifier.specs.FormatRun as r
use Rattle.bz_streams.specs.declared.exit.Cut.TheVariants as cut
use Rattle.bz_buildifier.specs.declared.effect.Effect.{Effect}
use Rattle.bz_streams.proofs.Written.{left-cons}
use Rattle.bz_buildifier.proofs.FormatRuns.{cut_more, files_more, files_outcome, grown_is, input_outcome, no_names, some_names, status_more, usage_outcome, writes_on}
use Rattle.bz_buildifier.proofs.formatting.buildifier.Goals as goal

abbrev none : Bor (List ℕ)
none = record { ref_ptr = (0, 0); now = [] }

abbrev texts : List (Bor (List ℕ)) → List (List ℕ)
texts names = map (λ name. name.now) names

pub returns-in-Err-clause-run : goal.returns-in-Err-clause-run
returns-in-Err-clause-run g c = λ _.
    let words = map g.S.AsStr.text c.args.words.now in
    let known = g.R.Source.remaining c.args.input.now in
    let folder = g.F.Files.folder c.args.files.now in
    elim (c.unusable.ensures c.in-Err.ensures.err) [
      | inl t ↦ (
        record r.begun { lines = t.1 ∷ []; status = 2 },
        usage_outcome words t.0 t.1 known folder t.2 t.3,
        t.5,
        (refl, appends_nothing (g.W.Sink.contents c.args.out.now)),
        (g.E.Sink.faults c.unusable.new.err, g.E.Sink.contents c.unusable.new.err, t.4, (refl, refl)),
      )
      | inr t ↦ (
        record r.begun { lines = named_line (codes "buildifier") (codes "Memory") ∷ []; status = 3; cut = cut.Memory },
        inl (refl, refl),
        t.0,
        (refl, appends_nothing (g.W.Sink.contents c.args.out.now)),
        t.1,
      )
    ]

pub returns-then-is_empty-clause-run : goal.returns-then-is_empty-clause-run
returns-then-is_empty-clause-run g c = λ _.
    let words = map g.S.AsStr.text c.args.words.now in
    let known = g.R.Source.remaining c.args.input.now in
    let folder = g.F.Files.folder c.args.files.now in
    let step = c.input_effect-effect.ensures.step in
    let run = r.grown r.begun step.0 in
    let none : map (λ file. file.now) c.in-Ok.line.files.items ≡ [] =
    no_names c.in-Ok.line.files.items c.as_slice-names.result.now _ c.as_slice-names.ensures.value c.is_empty.ensures c.if-is_empty.true in
    let done : c.grown.result ≡ record { status = run.status; cut = run.cut; closes = run.closes } =
    grown_is _ c.grown.result c.input_effect-effect.result r.begun step.0 refl step.2 c.grown.ensures in (
      run,
      input_outcome words (seen_line c.in-Ok.line) known folder step.0 c.in-Ok.ensures.ok none step.1,
      c.ended.ensures ∙ ap (λ (p : Effect). record { status = p.status; cut = p.cut }) done,
      step.3,
      step.4,
    )

pub returns-clause-run : goal.returns-clause-run
returns-clause-run g c = λ cause.
    let words = map g.S.AsStr.text c.args.words.now in
    let known = g.R.Source.remaining c.args.input.now in
    let before = g.F.Files.folder c.args.files.now in
    let after = g.F.Files.folder c.loop-name.files in
    let line = seen_line c.in-Ok.line in
    let names = c.as_slice-names.result.now in
    let some = some_names c.in-Ok.line.files.items names _ c.as_slice-names.ensures.value c.is_empty.ensures c.if-is_empty.false in
    let honest : g.F.Files.honest c.args.files.now ≡ true = elim cause [ inl is ↦ is | inr none ↦ absurd (some (rw c.in-Ok.ensures.ok at none)) ] in
    let so_far = c.loop-name.invariant.runs honest in
    let last : r.FilesFormatted line.mode line.file_type (texts (drop c.loop-name.name-index names)) so_far.0 after so_far.0 after =
    subst (λ (left : List (Bor (List ℕ))). r.FilesFormatted line.mode line.file_type (texts left) so_far.0 after so_far.0 after)
    (sym (drop_all c.loop-name.name-index names c.loop-name-test.false)) (refl, refl) in
    let files : r.FilesFormatted line.mode line.file_type line.files r.begun before so_far.0 after =
    subst (λ (all : List (Bor (List ℕ))). r.FilesFormatted line.mode line.file_type (texts all) r.begun before so_far.0 after) c.as_slice-names.ensures.value (so_far.2 so_far.0 after last) in (
      so_far.0,
      files_outcome words line known before after so_far.0 c.in-Ok.ensures.ok some files,
      c.ended-2.ensures ∙ ap (λ (p : Effect). record { status = p.status; cut = p.cut }) so_far.1,
      so_far.3,
      so_far.4,
    )

pub returns-in-Err-clause-regular : goal.returns-in-Err-clause-regular
returns-in-Err-clause-regular g c = none_read (g.F.Files.acts c.args.files.now)

pub returns-then-is_empty-clause-regular : goal.returns-then-is_empty-clause-regular
returns-then-is_empty-clause-regular g c = none_read (g.F.Files.acts c.args.files.now)

pub loop-name-init : goal.loop-name-init
loop-name-init g c = record {
  runs = λ honest. (r.begun, refl, (λ after last more. more), (refl, appends_nothing (g.W.Sink.contents c.args.out.now)), (refl, refl));
  regular = none_read (g.F.Files.acts c.args.files.now);
  status = λ other. absurd (other refl);
  cut = (refl, refl);
  files = record { grows = omega arith; rises = inl refl };
  counts = record { grows = omega arith; rises = inl refl };
  honest = refl;
}

pub loop-name-preserved : goal.loop-name-preserved
loop-name-preserved g c =
    let mode = c.in-Ok.line.options.mode in
    let file_type = c.in-Ok.line.options.file_type in
    let names = c.as_slice-names.result.now in
    let at = c.loop-name.name-index in
    let name = (get_or names at none).now in
    let l = c.loop-name in
    let e = c.file_effect-effect in
    let F = g.F.Files in
    let W = g.W.Sink in
    let E = g.E.Sink in
    record {
      runs = λ honest.
          let so_far = l.invariant.runs honest in
          let step = e.ensures.step (l.invariant.honest ∙ honest) in
          let closed : l.progress.closes ≡ so_far.0.closes = ap (λ (p : Effect). p.closes) so_far.1 in (
            r.grown so_far.0 step.0,
            grown_is l.progress c.grown-progress.result e.result so_far.0 step.0 so_far.1 step.2 c.grown-progress.ensures,
            files_more mode file_type (texts names) (texts (drop at names)) (texts (drop (at + 1) names)) name r.begun so_far.0
                (F.folder c.args.files.now) (F.folder l.files) (F.folder e.new.files) step.0
                (ap texts (left-cons names at none c.loop-name-test.true))
                (subst (λ (b : Bool). r.FileStep mode file_type name b (F.folder l.files) step.0 (F.folder e.new.files)) closed step.1) so_far.2,
            writes_on so_far.0.closes step.0.closes (W.faults c.args.out.now) (W.faults l.out) (W.faults e.new.out)
                (W.contents c.args.out.now) (W.contents l.out) (W.contents e.new.out) so_far.0.out step.0.out so_far.3
                (subst (λ (b : Bool). WritesUnlessClosed b step.0.closes (W.faults l.out) (W.faults e.new.out) (W.contents l.out)
                (W.contents e.new.out) step.0.out) closed step.3),
            reports_more (E.faults c.args.err.now) (E.faults l.err) (E.faults e.new.err) (E.contents c.args.err.now) (E.contents l.err)
                (E.contents e.new.err) so_far.0.lines step.0.lines so_far.4 step.4,
          );
      regular = reads_on (F.acts c.args.files.now) (F.acts l.files) (F.acts e.new.files) l.invariant.regular e.ensures.regular;
      status = λ other. rw (c.grown-progress.ensures) (status_more l.progress.cut e.result.cut l.progress.status e.result.status l.invariant.status e.ensures.status
          (rw (c.grown-progress.ensures) at other));
      cut = rw (c.grown-progress.ensures) (cut_more l.progress.cut e.result.cut (F.faults c.args.files.now) (F.faults l.files) (F.faults e.new.files)
          (W.faults c.args.out.now) (W.faults l.out) (W.faults e.new.out) l.invariant.cut e.ensures.cut l.invariant.files e.ensures.files
          l.invariant.counts e.ensures.counts);
      files = counts_more (F.faults c.args.files.now) (F.faults l.files) (F.faults e.new.files) l.invariant.files e.ensures.files;
      counts = counts_more (W.faults c.args.out.now) (W.faults l.out) (W.faults e.new.out) l.invariant.counts e.ensures.counts;
      honest = e.ensures.honest ∙ l.invariant.honest;
    }
