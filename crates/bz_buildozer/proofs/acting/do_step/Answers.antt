use Rattle.bz_buildozer.proofs.Words.{◌++◌, ◌∙◌, ◌≡◌, Bytes, counts_more, inl, input_package, progress_in, step_in, subst, sym, true, UsesSome, World}
use Rattle.bz_buildozer.proofs.{CutSteps.by_name, CutSteps.cut_after, CutSteps.neither_read, CutSteps.works_unread, FailSteps.does_so, FailSteps.left_after, FailSteps.more_lines, RunSteps.honest_kept, SafeSteps.opened_safely, SafeSteps.step_acted, UnreadSteps.among_first, UnreadSteps.grows_on}
use Rattle.bz_buildozer.proofs.acting.do_step.Goals as goal

pub returns : goal.returns
returns g c =
    let opening = c.open-opening in
    let name = c.package_of-package.result.now in
    let named = c.package_of-package.ensures in
    let folder = g.F.Files.folder in
    let is_honest = g.F.Files.honest c.args.files.now ≡ true in
    let step = step_in c.args.step in
    let before = progress_in c.args.run.now in
    let acted = c.act-acted in
    let after = progress_in acted.new.run in
    let used = opening.new.self in
    let works = acted.ensures.works in
    let unread = works_unread acted.result (g.F.Files.faults opening.new.files) (g.F.Files.faults acted.new.files) works.cut in
    record {
      does = λ can safe known acts left among.
          let world : World = record { folder = folder c.args.files.now; known = known; acts = acts } in
          let here = by_name is_honest c.args.journals name c.args.step.target.now.«package» input_package named can in
          let opened = opening.ensures.uses here known acts left (among_first (g.F.Files.acts c.args.files.now) (g.F.Files.acts opening.new.files) (g.F.Files.acts acted.new.files) acts
          acted.ensures.grows among) in
          let same = opening.ensures.folder here in
          let kept = λ (is : c.args.journals ≡ true). honest_kept c.args.journals (g.F.Files.honest c.args.files.now) (c.args.step.target.now.«package» ≡ input_package) can is in
          let done = acted.ensures.answers (λ is. opening.ensures.honest ∙ kept is) (λ is.
          opened_safely (folder c.args.files.now) (folder opening.new.files) name opening.result.place before.used used same (opening.ensures.some is (kept is)) (safe is)) in (
            opened.0 ++ done.0,
            does_so c.args.journals world step before after used opening.result.cut acted.result c.first_cut.result opening.result.place name opened.0 done.0
                (folder opening.new.files) (folder acted.new.files) named opened.1 same done.1 c.first_cut.ensures,
            left_after acted.result c.args.journals known (g.R.Source.remaining opening.new.input) step opening.result.place (folder opening.new.files) (folder acted.new.files)
                (record before { used = used }) after done.0 done.1 opened.2,
            more_lines g.E.Sink c.args.err.now opening.new.err acted.new.err opened.0 done.0 opened.3 done.2,
          );
      safely = λ kept honest began.
          step_acted g.F.Files g.met.F.Files.counts_now began step before.used used after.used opening.result.place c.args.files.now opening.new.files
          acted.new.files (subst (λ (n : Bytes). UsesSome (folder c.args.files.now) n opening.result.place before.used used) named (opening.ensures.some kept honest))
          (opening.ensures.folder (inl honest)) (opening.ensures.time kept honest) (opening.ensures.honest ∙ honest) (acted.ensures.keeps kept);
      unread = λ kept.
          let same = opening.ensures.unread kept in (
            same.0,
            same.1,
            (λ is. neither_read opening.result.cut acted.result same.2 unread (sym c.first_cut.ensures ∙ is)),
          );
      works = λ sound is. neither_read opening.result.cut acted.result (opening.ensures.works sound) unread (sym c.first_cut.ensures ∙ is);
      sound = opening.ensures.sound;
      cut = cut_after opening.result.cut acted.result c.first_cut.result (g.R.Source.faults c.args.input.now) (g.R.Source.faults opening.new.input)
          (g.F.Files.faults c.args.files.now) (g.F.Files.faults opening.new.files) (g.F.Files.faults acted.new.files) c.first_cut.ensures works.cut
          opening.ensures.cut opening.ensures.read_faults opening.ensures.counts works.counts;
      read_faults = opening.ensures.read_faults;
      counts = counts_more (g.F.Files.faults c.args.files.now) (g.F.Files.faults opening.new.files) (g.F.Files.faults acted.new.files)
          opening.ensures.counts works.counts;
      grows = grows_on (g.F.Files.acts c.args.files.now) (g.F.Files.acts opening.new.files) (g.F.Files.acts acted.new.files) opening.ensures.grows acted.ensures.grows;
      honest = works.honest ∙ opening.ensures.honest;
    }
