use Rattle.bz_buildozer.proofs.Words.{◌∙◌, ◌≡◌, ap, Bytes, Cut as cut, get, is_some, MeansUntil, None, refl, Settled, settled, settled_in, subst, sym, taken_in, true, unedited_in, unedited_lines}
use Rattle.bz_buildozer.proofs.{FailSteps.none_taken, FileNames.file_there, UnreadSteps.grows_none}
use Rattle.bz_buildozer.proofs.opening.open_settled.Goals as goal

pub returns-in-Package-clause-opens : goal.returns-in-Package-clause-opens
returns-in-Package-clause-opens g c = λ acts among.
    let done = c.open_named.ensures.opens acts among in (
      done.0,
      (λ honest meant. subst (λ (s : Settled). MeansUntil c.open_named.result.cut c.args.journals acts (g.F.Files.folder c.args.files.now) c.args.path.now s (taken_in c.open_named.result) done.0)
          (sym (ap settled_in c.in-Package.is)) (done.1 honest)),
      done.2,
    )

pub returns-in-File-clause-opens : goal.returns-in-File-clause-opens
returns-in-File-clause-opens g c = λ acts among.
    let folder = g.F.Files.folder c.args.files.now in
    let done = c.open_own.ensures.opens acts among in (
      done.0,
      (λ honest meant.
          let there = file_there folder c.args.path.now c.in-File.name.now (sym meant ∙ ap settled_in c.in-File.is) in
          subst (λ (s : Settled). MeansUntil c.open_own.result.cut c.args.journals acts folder c.args.path.now s (taken_in c.open_own.result) done.0)
          (sym (ap settled_in c.in-File.is)) (done.1 honest (ap (λ (name : Bytes). is_some (get folder name)) there.0 ∙ there.1))),
      done.2,
    )

pub returns-in-Refused-clause-opens : goal.returns-in-Refused-clause-opens
returns-in-Refused-clause-opens g c = λ acts among.
    let folder = g.F.Files.folder c.args.files.now in
    none_taken g.E.Sink (λ why file lines. g.F.Files.honest c.args.files.now ≡ true → settled_in c.args.settled ≡ settled folder c.args.path.now
    → MeansUntil why c.args.journals acts folder c.args.path.now (settled_in c.args.settled) file lines) c.fail_unedited.result cut.Whole c.args.err.now c.fail_unedited.new.err
    (unedited_lines c.args.path.now (unedited_in c.in-Refused.why)) c.fail_unedited.ensures.taken
    (λ honest meant. subst (λ (s : Settled). MeansUntil cut.Whole c.args.journals acts folder c.args.path.now s None (unedited_lines c.args.path.now (unedited_in c.in-Refused.why)))
    (sym (ap settled_in c.in-Refused.is)) (refl, refl, refl)) c.fail_unedited.ensures.reported

pub returns-in-Refused-clause-grows : goal.returns-in-Refused-clause-grows
returns-in-Refused-clause-grows g c = grows_none (g.F.Files.acts c.args.files.now)
