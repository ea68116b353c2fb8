use Rattle.bz_buildozer.proofs.Words.{◌++◌, ◌∙◌, ◌≡◌, ap, Bytes, inl, inr, lines_of, List, Opened, opened_in, package_of, present, Reads, refl, refusal_hint, ReportsLines, Some, subst, sym, view_of, ℕ}
use Rattle.bz_buildozer.proofs.acting.help.Goals as goal

pub returns-in-Ok-report_hint : goal.returns-in-Ok-report_hint
returns-in-Ok-report_hint g c = record {
  kinds = inl refl;
  whole = λ _. c.in_default.not-Memory;
  hints = λ file there tree.
      let found = tree c.in_default.not-Memory c.in_default.not-NoteTooLong in
      let own : Opened = opened_in c.open_file-file.result.now in
      let both : Some own ≡ Some file = sym c.open_file-file.ensures ∙ there in
      let same : own ≡ file = cc in
      let text : c.deref.result.now ≡ present own.history =
      c.deref.ensures.value ∙ (c.in-Ok.ensures.ok ∙ ap (λ (front : List ℕ). front ++ present own.history) c.new-text.ensures.items) in
      let helped : Opened → List (List ℕ) = λ (f : Opened). refusal_hint f.name c.args.refusal c.args.command.now c.args.target.now.which (package_of c.args.target.now.«package» f.name) (lines_of found.0) (view_of found.0) in
      let hints = c.in-Ok-report_hint.ensures.ok found.0 (subst (λ (t : List ℕ). Reads t found.0) (sym (text ∙ ap (λ (f : Opened). present f.history) same)) found.1) in (
        helped file,
        subst (λ (f : Opened). ReportsLines g.E.Sink c.args.err.now c.report_hint.new.err (helped f)) same (
            subst (λ (n : Bytes). ReportsLines g.E.Sink c.args.err.now c.report_hint.new.err (refusal_hint n c.args.refusal c.args.command.now c.args.target.now.which
            (package_of c.args.target.now.«package» n) (lines_of found.0) (view_of found.0))) c.as_str-name.ensures.value
            (subst (λ (current : Bytes). ReportsLines g.E.Sink c.args.err.now c.report_hint.new.err (refusal_hint c.as_str-name.result.now c.args.refusal c.args.command.now
            c.args.target.now.which current (lines_of found.0) (view_of found.0))) c.label_package-package.ensures hints)
            ),
        (λ memory. absurd (let e = memory in cc)),
        (λ _. inr (c.in_default.not-NoteTooLong, (found.0, found.1, refl))),
      );
}
