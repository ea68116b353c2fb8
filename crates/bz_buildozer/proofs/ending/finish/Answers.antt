use Rattle.bz_buildozer.proofs.Words.{[], ◌++◌, ◌∙◌, ◌≡◌, ◌⊎◌, All, ap, Cut as cut, first_cut, input_package, List, output_lines, PrintsUntil, subst, sym, texts_out, TriesFiles, true, Used}
use Rattle.bz_buildozer.proofs.{FailSteps.cut_alone, FailSteps.more_lines, EndingSteps.not_whole, EndingSteps.prints_err, CutSteps.whole_after}
use Rattle.bz_buildozer.proofs.ending.finish.Goals as goal

pub returns-clause-whole : goal.returns-clause-whole
returns-clause-whole g c whole =
    let outer = sym c.first_cut-in-Err-2.ensures ∙ sym c.ended-in-Err.ensures.cut ∙ whole in
    let inner = sym c.first_cut-in-Err.ensures ∙ whole_after c.args.cut c.first_cut-in-Err.result outer in
    absurd (not_whole c.in-Err.later _ _ _ c.in-Err.ensures.err (whole_after c.write_files-written.result c.in-Err.later inner))

pub returns-in-Ok-clause-ends : goal.returns-in-Ok-clause-ends
returns-in-Ok-clause-ends g c = λ premise.
    let same = c.used-packages.ensures in
    let options = c.args.ending.options in
    let printed = c.args.run.printed.items in
    let done = c.in-Ok.ensures.ok in
    let tried = c.write_files-written.ensures.tries
    (subst (λ (used : List Used). (g.F.Files.honest c.args.files.now ≡ true) ⊎ All (λ (one : Used). one.«package» ≡ input_package) used) (sym same) premise) in (
      cut.Whole,
      c.write_files-written.result,
      tried.0,
      subst (λ (used : List Used). TriesFiles c.write_files-written.result options used (g.F.Files.folder c.args.files.now) tried.0
          (g.F.Files.folder c.write_files-written.new.files)) same tried.1,
      subst (λ (used : List Used). PrintsUntil g.W.Sink cut.Whole c.args.out.now c.print_all-output.new.out
          (printed ++ texts_out c.args.ending.shown options.to_stdout used)) same done.1,
      more_lines g.E.Sink c.args.err.now c.print_all-output.new.err c.write_files-written.new.err [] tried.0 (ap g.E.Sink.faults done.3, ap g.E.Sink.contents done.3) tried.2,
      c.ended.ensures.cut ∙ c.first_cut.ensures ∙ ap (first_cut c.args.cut) (sym (cut_alone c.write_files-written.result)),
    )

pub returns-clause-ends : goal.returns-clause-ends
returns-clause-ends g c = λ premise.
    let same = c.used-packages.ensures in
    let options = c.args.ending.options in
    let printed = c.args.run.printed.items in
    let tried = c.write_files-written.ensures.tries
    (subst (λ (used : List Used). (g.F.Files.honest c.args.files.now ≡ true) ⊎ All (λ (one : Used). one.«package» ≡ input_package) used) (sym same) premise) in (
      c.in-Err.later,
      c.write_files-written.result,
      tried.0,
      subst (λ (used : List Used). TriesFiles c.write_files-written.result options used (g.F.Files.folder c.args.files.now) tried.0
          (g.F.Files.folder c.write_files-written.new.files)) same tried.1,
      subst (λ (used : List Used). PrintsUntil g.W.Sink c.in-Err.later c.args.out.now c.print_all-output.new.out
          (printed ++ texts_out c.args.ending.shown options.to_stdout used)) same
          (prints_err g.W.Sink c.in-Err.later c.args.out.now c.print_all-output.new.out _ c.in-Err.ensures.err),
      more_lines g.E.Sink c.args.err.now c.print_all-output.new.err c.write_files-written.new.err (output_lines c.in-Err.later) tried.0 c.in-Err.ensures.told tried.2,
      c.ended-in-Err.ensures.cut ∙ c.first_cut-in-Err-2.ensures ∙ ap (first_cut c.args.cut) c.first_cut-in-Err.ensures,
    )

pub returns-in-Ok-clause-grows : goal.returns-in-Ok-clause-grows
returns-in-Ok-clause-grows g c = c.write_files-written.ensures.grows

pub returns-clause-grows : goal.returns-clause-grows
returns-clause-grows g c = c.write_files-written.ensures.grows
