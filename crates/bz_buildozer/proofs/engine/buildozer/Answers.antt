use Rattle.bz_buildozer.proofs.Words.{[], ◌∙◌, ◌∷◌, ◌≡◌, ◌≢◌, acts_over, All, All-push, ap, arith, Bor, command_line_of, Folder, given_in, GivesNothing, HasPath, inl, input_package, inr, IsErr, IsGroupFault, IsLineUsageLine, IsMomentOfRun, line_in, line_usage_in, LineGivesNothing, LineOutcome, LineUsage, List, map, names_input, no_journal_line, Ok, operands, refl, ReportsLine, requested_in, script, subst, sym, true≢false, unused, Usage, usage_in, usage_line, World, ℕ}
use Rattle.bz_command_line.specs.declared.requested.Requested.{Requested}
use Rattle.bz_buildozer.proofs.FailSteps.{one_line}
use Rattle.bz_buildozer.proofs.Outcomes.{at_some, by_operands, by_words, each_of, names_given, no_journal, operands_done, operands_premise, no_words, ends_more, ends_told, read_nothing, told_found, words_done, words_given, words_kept, words_premise, words_unused, script_premise, no_time, of_script}
use Rattle.bz_buildozer.proofs.UnreadSteps.{among_all}
use Rattle.bz_buildozer.proofs.engine.buildozer.Goals as goal

pub returns-in-Err-clause-ends : goal.returns-in-Err-clause-ends
returns-in-Err-clause-ends g c premise =
    let words = map g.S.AsStr.text c.args.words.now in
    let world : World = record { folder = g.F.Files.folder c.args.files.now; known = g.R.Source.remaining c.args.input.now; acts = acts_over g.F.Files c.args.files.now c.args.files.now } in
    let found = line_usage_in c.in-Err.fault in
    let e = c.report_line_usage in
    let end = c.unused in
    ends_told g.W.Sink g.E.Sink g.F.Files end.result world c.args.out.now c.args.err.now end.new.err c.args.files.now refl (LineOutcome words (command_line_of words) world) e.result
    e.new.err (λ is.
    let it = told_found e.result end.result found e.new.err end.new.err
    (λ (usage : LineUsage). λ now. (line : List ℕ) × IsLineUsageLine words usage line × ReportsLine g.E.Sink c.args.err.now now line) _ is
    e.ensures.some e.ensures.reported end.ensures.ok end.ensures.err in (
      it.2.0,
      words_unused words world it.2.0 found it.0 c.in-Err.ensures.err it.1 it.2.1,
      one_line g.E.Sink c.args.err.now end.new.err it.2.0 it.2.2,
    )) e.ensures.refused end.ensures.ok end.ensures.err

pub returns-in-Operands-clause-usage : goal.returns-in-Operands-clause-usage
returns-in-Operands-clause-usage g c is is_whole =
    let words = map g.S.AsStr.text c.args.words.now in
    let line = line_in c.in-Ok.line in
    let texts = map (λ (s : Bor (List ℕ)). s.now) c.deref.result.now in
    let same : line.given ≡ operands texts = ap given_in c.in-Operands.is ∙ ap (λ (these : List (Bor (List ℕ))). operands (map (λ (s : Bor (List ℕ)). s.now) these)) (sym c.deref.ensures.value) in
    let world : World = record { folder = g.F.Files.folder c.args.files.now; known = g.R.Source.remaining c.args.input.now; acts = acts_over g.F.Files c.args.files.now c.args.files.now } in
    let e = c.report_usage in
    let end = c.unused-in-Err-read_group in
    let it = told_found e.result end.result (usage_in c.in-Err-read_group.fault) e.new.err end.new.err
    (λ (usage : Usage). λ now. ReportsLine g.E.Sink c.args.err.now now (usage_line [] usage)) _ is e.ensures.some e.ensures.reported end.ensures.ok end.ensures.err in (
      usage_line [] it.0,
      (
        world,
        (λ _. refl),
        words_given words line (operands texts) world (unused world.folder (usage_line [] it.0)) c.in-Ok.ensures.ok same
            (inl (it.0, at_some (IsGroupFault line.options.profile texts) (usage_in c.in-Err-read_group.fault) it.0 it.1 c.in-Err-read_group.ensures.err, refl)),
      ),
      one_line g.E.Sink c.args.err.now end.new.err (usage_line [] it.0) it.2,
    )

pub returns-in-Ok-read_group-clause-ends : goal.returns-in-Ok-read_group-clause-ends
returns-in-Ok-read_group-clause-ends g c premise =
    let words = map g.S.AsStr.text c.args.words.now in
    let line = line_in c.in-Ok.line in
    let texts = map (λ (s : Bor (List ℕ)). s.now) c.deref.result.now in
    let same : line.given ≡ operands texts = ap given_in c.in-Operands.is ∙ ap (λ (these : List (Bor (List ℕ))). operands (map (λ (s : Bor (List ℕ)). s.now) these)) (sym c.deref.ensures.value) in
    let requested = requested_in c.in-Ok-read_group.requested in
    let lines = map requested_in c.from_ref.result.now in
    let one : lines ≡ requested ∷ [] = ap (map requested_in) c.from_ref.ensures.value in
    let world : World = record { folder = g.F.Files.folder c.args.files.now; known = g.R.Source.remaining c.args.input.now; acts = acts_over g.F.Files c.args.files.now c.perform.new.files } in
    ends_more g.W.Sink g.E.Sink g.F.Files c.perform.result _ _ c.args.out.now c.perform.new.out c.args.err.now c.perform.new.err c.perform.new.files
    (λ ended is. words_done words line (operands texts) world ended c.in-Ok.ensures.ok same
    (operands_done line.options texts world requested lines ended c.in-Ok-read_group.ensures.ok one is))
    (c.perform.ensures.ends (operands_premise (g.F.Files.honest c.args.files.now) line.options.profile texts requested lines c.in-Ok-read_group.ensures.ok one
    (words_premise (g.F.Files.honest c.args.files.now) words line (operands texts) c.in-Ok.ensures.ok same premise))
    (acts_over g.F.Files c.args.files.now c.perform.new.files) (among_all (g.F.Files.acts c.args.files.now) (g.F.Files.acts c.perform.new.files)))

pub returns-in-Operands-clause-ends : goal.returns-in-Operands-clause-ends
returns-in-Operands-clause-ends g c premise =
    let words = map g.S.AsStr.text c.args.words.now in
    let line = line_in c.in-Ok.line in
    let texts = map (λ (s : Bor (List ℕ)). s.now) c.deref.result.now in
    let same : line.given ≡ operands texts = ap given_in c.in-Operands.is ∙ ap (λ (these : List (Bor (List ℕ))). operands (map (λ (s : Bor (List ℕ)). s.now) these)) (sym c.deref.ensures.value) in
    let world : World = record { folder = g.F.Files.folder c.args.files.now; known = g.R.Source.remaining c.args.input.now; acts = acts_over g.F.Files c.args.files.now c.args.files.now } in
    let e = c.report_usage in
    let end = c.unused-in-Err-read_group in
    ends_told g.W.Sink g.E.Sink g.F.Files end.result world c.args.out.now c.args.err.now end.new.err c.args.files.now refl (LineOutcome words (command_line_of words) world) e.result
    e.new.err (λ is.
    let it = told_found e.result end.result (usage_in c.in-Err-read_group.fault) e.new.err end.new.err
    (λ (usage : Usage). λ now. ReportsLine g.E.Sink c.args.err.now now (usage_line [] usage)) _ is e.ensures.some e.ensures.reported end.ensures.ok end.ensures.err in (
      usage_line [] it.0,
      words_given words line (operands texts) world (unused world.folder (usage_line [] it.0)) c.in-Ok.ensures.ok same
          (inl (it.0, at_some (IsGroupFault line.options.profile texts) (usage_in c.in-Err-read_group.fault) it.0 it.1 c.in-Err-read_group.ensures.err, refl)),
      one_line g.E.Sink c.args.err.now end.new.err (usage_line [] it.0) it.2,
    )) e.ensures.refused end.ensures.ok end.ensures.err

pub returns-clause-ends : goal.returns-clause-ends
returns-clause-ends g c premise =
    let words = map g.S.AsStr.text c.args.words.now in
    let line = line_in c.in-Ok.line in
    let name = c.in-Script.name.now in
    let same : line.given ≡ script name = ap given_in c.in-Script.is in
    let world : World = record { folder = g.F.Files.folder c.args.files.now; known = g.R.Source.remaining c.args.input.now; acts = acts_over g.F.Files c.args.files.now c.run_script.new.files } in
    ends_more g.W.Sink g.E.Sink g.F.Files c.run_script.result _ _ c.args.out.now c.run_script.new.out c.args.err.now c.run_script.new.err c.run_script.new.files
    (λ ended. words_done words line (script name) world ended c.in-Ok.ensures.ok same)
    (c.run_script.ensures.ends (script_premise (g.F.Files.honest c.args.files.now) line.options.profile name
    (words_premise (g.F.Files.honest c.args.files.now) words line (script name) c.in-Ok.ensures.ok same premise)))

pub returns-in-Err-clause-read : goal.returns-in-Err-clause-read
returns-in-Err-clause-read g c none read =
    read_nothing g.W.Sink g.E.Sink g.F.Files (map g.S.AsStr.text c.args.words.now)
    (record { folder = g.F.Files.folder c.args.files.now; known = g.R.Source.remaining c.args.input.now; acts = acts_over g.F.Files c.args.files.now c.args.files.now }) c.unused.result c.args.out.now c.args.out.now c.args.err.now
    c.unused.new.err c.args.files.now none read (returns-in-Err-clause-ends g c (inr none))

pub returns-in-Ok-read_group-clause-read : goal.returns-in-Ok-read_group-clause-read
returns-in-Ok-read_group-clause-read g c none read =
    read_nothing g.W.Sink g.E.Sink g.F.Files (map g.S.AsStr.text c.args.words.now)
    (record { folder = g.F.Files.folder c.args.files.now; known = g.R.Source.remaining c.args.input.now; acts = acts_over g.F.Files c.args.files.now c.perform.new.files }) c.perform.result c.args.out.now c.perform.new.out
    c.args.err.now c.perform.new.err c.perform.new.files none read (returns-in-Ok-read_group-clause-ends g c (inr none))

pub returns-in-Operands-clause-read : goal.returns-in-Operands-clause-read
returns-in-Operands-clause-read g c none read =
    read_nothing g.W.Sink g.E.Sink g.F.Files (map g.S.AsStr.text c.args.words.now)
    (record { folder = g.F.Files.folder c.args.files.now; known = g.R.Source.remaining c.args.input.now; acts = acts_over g.F.Files c.args.files.now c.args.files.now }) c.unused-in-Err-read_group.result c.args.out.now c.args.out.now
    c.args.err.now c.unused-in-Err-read_group.new.err c.args.files.now none read (returns-in-Operands-clause-ends g c (inr none))

pub returns-clause-read : goal.returns-clause-read
returns-clause-read g c none read =
    read_nothing g.W.Sink g.E.Sink g.F.Files (map g.S.AsStr.text c.args.words.now)
    (record { folder = g.F.Files.folder c.args.files.now; known = g.R.Source.remaining c.args.input.now; acts = acts_over g.F.Files c.args.files.now c.run_script.new.files }) c.run_script.result c.args.out.now c.run_script.new.out
    c.args.err.now c.run_script.new.err c.run_script.new.files none read (returns-clause-ends g c (inr none))

pub returns-in-Ok-read_group-clause-unread : goal.returns-in-Ok-read_group-clause-unread
returns-in-Ok-read_group-clause-unread g c nothing =
    let line = line_in c.in-Ok.line in
    let texts = map (λ (s : Bor (List ℕ)). s.now) c.deref.result.now in
    let same : line.given ≡ operands texts = ap given_in c.in-Operands.is ∙ ap (λ (these : List (Bor (List ℕ))). operands (map (λ (s : Bor (List ℕ)). s.now) these)) (sym c.deref.ensures.value) in
    let found : LineGivesNothing (Ok line) = subst LineGivesNothing c.in-Ok.ensures.ok nothing in
    let given : GivesNothing line.options (operands texts) = subst (GivesNothing line.options) same found in
    elim given [
      | inl refused ↦ absurd (true≢false (sym (subst IsErr c.in-Ok-read_group.ensures.ok refused)))
      | inr named ↦ c.perform.ensures.unread named.0 (names_given line.options.profile texts (requested_in c.in-Ok-read_group.requested) (map requested_in c.from_ref.result.now)
          c.in-Ok-read_group.ensures.ok (ap (map requested_in) c.from_ref.ensures.value) named.1)
    ]

pub returns-clause-unread : goal.returns-clause-unread
returns-clause-unread g c nothing =
    let line = line_in c.in-Ok.line in
    let same : line.given ≡ script c.in-Script.name.now = ap given_in c.in-Script.is in
    let found : LineGivesNothing (Ok line) = subst LineGivesNothing c.in-Ok.ensures.ok nothing in
    absurd (subst (GivesNothing line.options) same found)

pub returns-in-Err-clause-usage : goal.returns-in-Err-clause-usage
returns-in-Err-clause-usage g c is is_whole =
    let words = map g.S.AsStr.text c.args.words.now in
    let world : World = record { folder = g.F.Files.folder c.args.files.now; known = g.R.Source.remaining c.args.input.now; acts = acts_over g.F.Files c.args.files.now c.args.files.now } in
    let found = line_usage_in c.in-Err.fault in
    let e = c.report_line_usage in
    let end = c.unused in
    let it = told_found e.result end.result found e.new.err end.new.err
    (λ (usage : LineUsage). λ now. (line : List ℕ) × IsLineUsageLine words usage line × ReportsLine g.E.Sink c.args.err.now now line) _ is
    e.ensures.some e.ensures.reported end.ensures.ok end.ensures.err in (
      it.2.0,
      (world, (λ _. refl), words_unused words world it.2.0 found it.0 c.in-Err.ensures.err it.1 it.2.1),
      one_line g.E.Sink c.args.err.now end.new.err it.2.0 it.2.2,
    )

pub returns-in-Ok-read_group-clause-usage : goal.returns-in-Ok-read_group-clause-usage
returns-in-Ok-read_group-clause-usage g c is is_whole =
    let line = line_in c.in-Ok.line in
    let texts = map (λ (s : Bor (List ℕ)). s.now) c.deref.result.now in
    let same : line.given ≡ operands texts = ap given_in c.in-Operands.is ∙ ap (λ (these : List (Bor (List ℕ))). operands (map (λ (s : Bor (List ℕ)). s.now) these)) (sym c.deref.ensures.value) in
    let world : World = record { folder = g.F.Files.folder c.args.files.now; known = g.R.Source.remaining c.args.input.now; acts = acts_over g.F.Files c.args.files.now c.perform.new.files } in
    let told = c.perform.ensures.usage is in
    let requested = requested_in c.in-Ok-read_group.requested in
    let named = ap names_input (sym (ap (map requested_in) c.from_ref.ensures.value)) ∙ told.1 in (
      no_journal_line,
      (
        world,
        (λ _. refl),
        words_given (map g.S.AsStr.text c.args.words.now) line (operands texts) world (unused world.folder no_journal_line) c.in-Ok.ensures.ok same
            (inr (requested, c.in-Ok-read_group.ensures.ok, no_journal line.options (requested ∷ []) world told.0 named)),
      ),
      told.2,
    )

pub returns-clause-usage : goal.returns-clause-usage
returns-clause-usage g c is is_whole =
    let line = line_in c.in-Ok.line in
    let name = c.in-Script.name.now in
    let told = c.run_script.ensures.usage is is_whole in
    let now = told.1.0 in (
      told.0,
      (now, told.1.1, words_given (map g.S.AsStr.text c.args.words.now) line (script name) now (unused now.folder told.0) c.in-Ok.ensures.ok (ap given_in c.in-Script.is) told.1.2),
      told.2,
    )

pub returns-in-Err-clause-unused_time : goal.returns-in-Err-clause-unused_time
returns-in-Err-clause-unused_time g c is honest =
    no_time g.F.Files.moment g.F.Files.since c.args.files.now c.args.files.now (λ (now : Folder). now ≡ g.F.Files.folder c.args.files.now) refl

pub returns-in-Ok-read_group-clause-unused_time : goal.returns-in-Ok-read_group-clause-unused_time
returns-in-Ok-read_group-clause-unused_time g c is honest =
    no_time g.F.Files.moment g.F.Files.since c.args.files.now c.perform.new.files (λ (now : Folder). now ≡ g.F.Files.folder c.args.files.now)
    (c.perform.ensures.unused is).2

pub returns-in-Operands-clause-unused_time : goal.returns-in-Operands-clause-unused_time
returns-in-Operands-clause-unused_time g c is honest =
    no_time g.F.Files.moment g.F.Files.since c.args.files.now c.args.files.now (λ (now : Folder). now ≡ g.F.Files.folder c.args.files.now) refl

pub returns-clause-unused_input : goal.returns-clause-unused_input
returns-clause-unused_input g c is takes =
    let line = line_in c.in-Ok.line in
    c.run_script.ensures.unused_input is
    (of_script (λ (name : List ℕ). name ≢ input_package) (map g.S.AsStr.text c.args.words.now) line c.in-Script.name.now c.in-Ok.ensures.ok (ap given_in c.in-Script.is) takes)

pub returns-clause-unused_files : goal.returns-clause-unused_files
returns-clause-unused_files g c is takes =
    let line = line_in c.in-Ok.line in
    c.run_script.ensures.unused_files is
    (of_script (λ (name : List ℕ). name ≡ input_package) (map g.S.AsStr.text c.args.words.now) line c.in-Script.name.now c.in-Ok.ensures.ok (ap given_in c.in-Script.is) takes)

pub returns-in-Ok-read_group-clause-unread_kept : goal.returns-in-Ok-read_group-clause-unread_kept
returns-in-Ok-read_group-clause-unread_kept g c kept takes =
    let still = c.perform.ensures.reads_nothing (words_kept (map g.S.AsStr.text c.args.words.now) (line_in c.in-Ok.line) c.in-Ok.ensures.ok kept) in (still.0, still.1)

pub returns-clause-unread_kept : goal.returns-clause-unread_kept
returns-clause-unread_kept g c kept takes =
    let line = line_in c.in-Ok.line in
    c.run_script.ensures.unread_kept (words_kept (map g.S.AsStr.text c.args.words.now) line c.in-Ok.ensures.ok kept)
    (of_script (λ (name : List ℕ). name ≢ input_package) (map g.S.AsStr.text c.args.words.now) line c.in-Script.name.now c.in-Ok.ensures.ok (ap given_in c.in-Script.is) takes)

pub returns-in-Err-clause-moments : goal.returns-in-Err-clause-moments
returns-in-Err-clause-moments g c honest = no_words g.F.Files c.args.files.now c.args.files.now (command_line_of (map g.S.AsStr.text c.args.words.now))
    (g.R.Source.remaining c.args.input.now) refl (g.met.F.Files.only_now c.args.files.now)

pub returns-in-Ok-read_group-clause-moments : goal.returns-in-Ok-read_group-clause-moments
returns-in-Ok-read_group-clause-moments g c honest =
    let line = line_in c.in-Ok.line in
    let texts = map (λ (s : Bor (List ℕ)). s.now) c.deref.result.now in
    let same : line.given ≡ operands texts = ap given_in c.in-Operands.is ∙ ap (λ (these : List (Bor (List ℕ))). operands (map (λ (s : Bor (List ℕ)). s.now) these)) (sym c.deref.ensures.value) in
    let known = g.R.Source.remaining c.args.input.now in
    let world : World = record { folder = g.F.Files.folder c.args.files.now; known = known; acts = acts_over g.F.Files c.args.files.now c.perform.new.files } in
    by_words g.F.Files c.args.files.now c.perform.new.files (map g.S.AsStr.text c.args.words.now) line (operands texts) world
    c.in-Ok.ensures.ok same (λ kept. each_of g.F.Files c.args.files.now c.perform.new.files line.options.profile known (operands texts) (g.met.F.Files.only_now c.args.files.now)
    (by_operands g.F.Files c.args.files.now c.perform.new.files line.options.profile known texts (requested_in c.in-Ok-read_group.requested) (map requested_in c.from_ref.result.now)
    c.in-Ok-read_group.ensures.ok (ap (map requested_in) c.from_ref.ensures.value) (c.perform.ensures.moments kept honest)))

pub returns-in-Operands-clause-moments : goal.returns-in-Operands-clause-moments
returns-in-Operands-clause-moments g c honest =
    let line = line_in c.in-Ok.line in
    let texts = map (λ (s : Bor (List ℕ)). s.now) c.deref.result.now in
    let same : line.given ≡ operands texts = ap given_in c.in-Operands.is ∙ ap (λ (these : List (Bor (List ℕ))). operands (map (λ (s : Bor (List ℕ)). s.now) these)) (sym c.deref.ensures.value) in
    let known = g.R.Source.remaining c.args.input.now in
    let world : World = record { folder = g.F.Files.folder c.args.files.now; known = known; acts = acts_over g.F.Files c.args.files.now c.args.files.now } in
    by_words g.F.Files c.args.files.now c.args.files.now (map g.S.AsStr.text c.args.words.now) line (operands texts) world
    c.in-Ok.ensures.ok same (λ kept. each_of g.F.Files c.args.files.now c.args.files.now line.options.profile known (operands texts) (g.met.F.Files.only_now c.args.files.now)
    (no_time g.F.Files.moment g.F.Files.since c.args.files.now c.args.files.now (IsMomentOfRun line.options.profile world (operands texts)) refl))

pub returns-clause-moments : goal.returns-clause-moments
returns-clause-moments g c honest =
    let name = c.in-Script.name.now in
    let known = g.R.Source.remaining c.args.input.now in
    let world : World = record { folder = g.F.Files.folder c.args.files.now; known = known; acts = acts_over g.F.Files c.args.files.now c.run_script.new.files } in
    by_words g.F.Files c.args.files.now c.run_script.new.files (map g.S.AsStr.text c.args.words.now) (line_in c.in-Ok.line) (script name) world
    c.in-Ok.ensures.ok (ap given_in c.in-Script.is) (λ kept. each_of g.F.Files c.args.files.now c.run_script.new.files c.in-Ok.line.options.profile known (script name)
    (g.met.F.Files.only_now c.args.files.now) (c.run_script.ensures.moments kept honest))

pub perform-requires : goal.perform-requires
perform-requires g c =
    let paths : All (λ (requested : Requested). All HasPath requested.targets.items) (c.in-Ok-read_group.requested ∷ []) =
    All-push (λ (requested : Requested). All HasPath requested.targets.items) [] c.in-Ok-read_group.requested (λ k d less. absurd (omega arith)) c.in-Ok-read_group.ensures.paths in
    subst (λ (lines : List Requested). All (λ (requested : Requested). All HasPath requested.targets.items) lines) (sym c.from_ref.ensures.value) paths
