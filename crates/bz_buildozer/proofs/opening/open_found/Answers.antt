use Rattle.bz_buildozer.proofs.Words.{[], ◌∙◌, ◌∷◌, ◌≡◌, ap, Bytes, codes, Cut as cut, Err, FileKind as k, inl, inr, IsUnreadInRun, named_line, refl, rules, Some, subst, taken_in, Takes, TakesBeside, TakesUntil, true, unreadable, wanting}
use Rattle.bz_buildozer.proofs.ReadSteps.{none_beside, plain_beside, read_beside}
use Rattle.bz_buildozer.proofs.FailSteps.{fails_as, journal_there, memory_until}
use Rattle.bz_buildozer.proofs.UnreadSteps.{among_second, grows_none, grows_read, unread_among}
use Rattle.bz_buildozer.proofs.opening.open_found.Goals as goal

pub returns-in-Ok-journal_bytes-clause-takes : goal.returns-in-Ok-journal_bytes-clause-takes
returns-in-Ok-journal_bytes-clause-takes g c = λ acts among.
    let opened = c.open_resumed in
    memory_until g.E.Sink (TakesBeside (Some c.as_slice.result.now) c.args.package.now c.args.name.now c.args.text.items) (λ why found lines. g.F.Files.honest c.args.files.now ≡ true → TakesUntil why c.args.journals acts (g.F.Files.folder c.args.files.now) c.args.package.now c.args.name.now c.args.text.items found lines)
    (named_line c.as_str-journal.result.now (codes "Memory (8)")) opened.result.cut (taken_in opened.result) c.args.err.now opened.new.err
    (λ lines takes honest. let held = c.in-Ok-journal_bytes.ensures.found honest in
    read_beside c.args.journals (g.F.Files.folder c.args.files.now) c.args.package.now c.args.name.now c.as_str-journal.result.now held.0 c.as_slice.result.now c.in-Ok-journal_bytes.bytes.items c.args.text.items (taken_in opened.result) lines c.if-not-journals.false (c.as_str-journal.ensures.value ∙ c.in-Ok.ensures) c.as_slice.ensures.value held.1 held.2 takes)
    (λ closed honest. let held = c.in-Ok-journal_bytes.ensures.found honest in (
      closed,
      inr (inr (
        journal_there c.args.journals (g.F.Files.folder c.args.files.now) c.args.name.now c.as_str-journal.result.now held.0 c.if-not-journals.false
            (c.as_str-journal.ensures.value ∙ c.in-Ok.ensures) held.1,
        ap (λ (journal : Bytes). named_line journal (codes "Memory (8)") ∷ []) (c.as_str-journal.ensures.value ∙ c.in-Ok.ensures),
      )),
    )) opened.ensures.whole opened.ensures.cut opened.ensures.told

pub returns-in-Err-Absent-clause-takes : goal.returns-in-Err-Absent-clause-takes
returns-in-Err-Absent-clause-takes g c = λ acts among.
    let opened = c.open_text-in-Err-Absent in
    memory_until g.E.Sink (Takes c.args.package.now c.args.name.now c.args.text.items) (λ why found lines. g.F.Files.honest c.args.files.now ≡ true → TakesUntil why c.args.journals acts (g.F.Files.folder c.args.files.now) c.args.package.now c.args.name.now c.args.text.items found lines)
    (named_line c.args.name.now (codes "Memory")) opened.result.cut (taken_in opened.result) c.args.err.now opened.new.err
    (λ lines takes honest. none_beside c.args.journals (g.F.Files.folder c.args.files.now) c.args.package.now c.args.name.now c.as_str-journal.result.now c.args.text.items
    (taken_in opened.result) lines c.if-not-journals.false (c.as_str-journal.ensures.value ∙ c.in-Ok.ensures)
    (c.in-Err-Absent.ensures.absent honest (ap Err c.in-Err-Absent.field-0-is)) takes)
    (λ closed honest. (closed, inl refl)) opened.ensures.whole opened.ensures.cut opened.ensures.told

pub returns-then-not-journals-clause-takes : goal.returns-then-not-journals-clause-takes
returns-then-not-journals-clause-takes g c = λ acts among.
    let opened = c.open_text in
    memory_until g.E.Sink (Takes c.args.package.now c.args.name.now c.args.text.items) (λ why found lines. g.F.Files.honest c.args.files.now ≡ true → TakesUntil why c.args.journals acts (g.F.Files.folder c.args.files.now) c.args.package.now c.args.name.now c.args.text.items found lines)
    (named_line c.args.name.now (codes "Memory")) opened.result.cut (taken_in opened.result) c.args.err.now opened.new.err
    (λ lines takes honest. plain_beside c.args.journals (g.F.Files.folder c.args.files.now) c.args.package.now c.args.name.now c.args.text.items (taken_in opened.result) lines
    c.if-not-journals.true takes)
    (λ closed honest. (closed, inl refl)) opened.ensures.whole opened.ensures.cut opened.ensures.told

pub returns-in_default-clause-takes : goal.returns-in_default-clause-takes
returns-in_default-clause-takes g c = λ acts among.
    fails_as g.E.Sink (λ why file lines. g.F.Files.honest c.args.files.now ≡ true → TakesUntil why c.args.journals acts (g.F.Files.folder c.args.files.now) c.args.package.now c.args.name.now c.args.text.items file lines) c.fail.result
    cut.Memory c.args.err.now c.fail.new.err _ c.fail.ensures.taken (λ honest. (refl, inl refl)) c.fail.ensures.reported

pub returns-in-Err-Memory-clause-takes : goal.returns-in-Err-Memory-clause-takes
returns-in-Err-Memory-clause-takes g c = λ acts among.
    fails_as g.E.Sink (λ why file lines. g.F.Files.honest c.args.files.now ≡ true → TakesUntil why c.args.journals acts (g.F.Files.folder c.args.files.now) c.args.package.now c.args.name.now c.args.text.items file lines)
    c.fail-in-Err-Memory.result cut.Memory c.args.err.now c.fail-in-Err-Memory.new.err _ c.fail-in-Err-Memory.ensures.taken
    (λ honest. (refl, inr (inl (c.if-not-journals.false, ap wanting (c.as_str-journal.ensures.value ∙ c.in-Ok.ensures))))) c.fail-in-Err-Memory.ensures.reported

pub returns-in-Err-clause-takes : goal.returns-in-Err-clause-takes
returns-in-Err-clause-takes g c = λ acts among.
    fails_as g.E.Sink (λ why file lines. g.F.Files.honest c.args.files.now ≡ true → TakesUntil why c.args.journals acts (g.F.Files.folder c.args.files.now) c.args.package.now c.args.name.now c.args.text.items file lines)
    c.fail-in-Err.result cut.Files c.args.err.now c.fail-in-Err.new.err _ c.fail-in-Err.ensures.taken
    (λ honest. (
      c.if-not-journals.false,
      refl,
      ap unreadable (c.as_str-journal.ensures.value ∙ c.in-Ok.ensures),
      (let failed = c.in-Err.ensures.failed in
          subst (IsUnreadInRun acts) (c.as_str-journal.ensures.value ∙ c.in-Ok.ensures) (unread_among failed.0 (g.F.Files.acts c.journal_bytes.new.files) acts
          c.as_str-journal.result.now k.Regular c.in-Err.field-0
          (among_second (g.F.Files.acts c.args.files.now) failed.0 (g.F.Files.acts c.journal_bytes.new.files) acts (grows_read (g.F.Files.acts c.args.files.now) failed.0 failed.1) among) (search rules) failed.2)),
    )) c.fail-in-Err.ensures.reported

pub returns-then-not-journals-clause-grows : goal.returns-then-not-journals-clause-grows
returns-then-not-journals-clause-grows g c = grows_none (g.F.Files.acts c.args.files.now)

pub returns-in_default-clause-grows : goal.returns-in_default-clause-grows
returns-in_default-clause-grows g c = grows_none (g.F.Files.acts c.args.files.now)

pub returns-in-Ok-journal_bytes-clause-grows : goal.returns-in-Ok-journal_bytes-clause-grows
returns-in-Ok-journal_bytes-clause-grows g c = grows_read (g.F.Files.acts c.args.files.now) (g.F.Files.acts c.journal_bytes.new.files) c.journal_bytes.ensures.regular

pub returns-in-Err-Absent-clause-grows : goal.returns-in-Err-Absent-clause-grows
returns-in-Err-Absent-clause-grows g c = grows_read (g.F.Files.acts c.args.files.now) (g.F.Files.acts c.journal_bytes.new.files) c.journal_bytes.ensures.regular

pub returns-in-Err-Memory-clause-grows : goal.returns-in-Err-Memory-clause-grows
returns-in-Err-Memory-clause-grows g c = grows_read (g.F.Files.acts c.args.files.now) (g.F.Files.acts c.journal_bytes.new.files) c.journal_bytes.ensures.regular

pub returns-in-Err-clause-grows : goal.returns-in-Err-clause-grows
returns-in-Err-clause-grows g c = grows_read (g.F.Files.acts c.args.files.now) (g.F.Files.acts c.journal_bytes.new.files) c.journal_bytes.ensures.regular
