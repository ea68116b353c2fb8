use Rattle.bz_buildozer.proofs.Words.{[], ◌++◌, ◌∙◌, ◌∷◌, ◌≡◌, ◌⊎◌, ap, first_cut, inl, input_package, inr, List, map, map_more, refl, subst, sym, take, TriesFiles, true, used_in}
use Rattle.bz_buildozer.specs.Found as p
use Rattle.bz_buildozer.specs.declared.used.Used.{Used}
use Rattle.bz_buildozer.proofs.{EndingSteps.of_input_at, EndingSteps.tries_file, EndingSteps.tries_more, FailSteps.more_lines, KeepSteps.works_more, RunSteps.counts_same, UnreadSteps.grows_none, UnreadSteps.grows_on}
use Rattle.bz_buildozer.proofs.ending.write_files.Goals as goal

pub loop-used-init : goal.loop-used-init
loop-used-init g c = record {
  tries = λ premise. ([], (refl, refl, refl), (refl, refl));
  kept = λ _. refl;
  works = record { cut = inl (refl, refl); counts = counts_same (g.F.Files.faults c.args.files.now); honest = refl };
  grows = grows_none (g.F.Files.acts c.args.files.now);
}

pub loop-used-preserved : goal.loop-used-preserved
loop-used-preserved g c =
    let F = g.F.Files in
    let E = g.E.Sink in
    let l = c.loop-used in
    let packages = c.args.packages.now in
    let at = l.used-index in
    let item = c.used-item.result in
    let later = c.write_file-later in
    let so_far = map used_in (take at packages) in
    rw (c.first_cut-cut.ensures) record {
      tries = λ premise.
          let before = l.invariant.tries premise in
          let here : (F.honest l.files ≡ true) ⊎ ((used_in item).«package» ≡ input_package) = elim premise [
            | inl honest ↦ inl (l.invariant.works.honest ∙ honest)
            | inr all ↦ inr (of_input_at packages at item c.used-item.is c.loop-used-test.true all)
          ] in
          let tried = tries_file F E c.args.options (used_in item) later.result l.files later.new.files l.err later.new.err here later.ensures.reported later.ensures.writes
          later.ensures.kept later.ensures.unwritten later.ensures.memory later.ensures.works in (
            before.0 ++ tried.0,
            subst (λ (used : List p.Used). TriesFiles (first_cut l.cut later.result) c.args.options used (F.folder c.args.files.now) (before.0 ++ tried.0) (F.folder later.new.files))
                (sym (map_more used_in packages at item c.loop-used-test.true ∙ ap (λ (used : Used). so_far ++ used_in used ∷ []) (sym c.used-item.is)))
                (tries_more l.cut later.result c.args.options so_far (used_in item) (F.folder c.args.files.now) (F.folder l.files) (F.folder later.new.files) before.0 tried.0
                before.1 tried.1),
            more_lines E c.args.err.now l.err later.new.err before.0 tried.0 before.2 tried.2,
          );
      kept = λ kept. later.ensures.kept kept ∙ l.invariant.kept kept;
      works = works_more F l.cut later.result c.args.files.now l.files later.new.files l.invariant.works later.ensures.works;
      grows = grows_on (F.acts c.args.files.now) (F.acts l.files) (F.acts later.new.files) l.invariant.grows later.ensures.grows;
    }
