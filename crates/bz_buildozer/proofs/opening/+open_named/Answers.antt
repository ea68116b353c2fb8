use Rattle.bz_buildozer.proofs.Words.{◌∙◌, ◌≡◌, ap, base_of, Cut as cut, Err, false, FileKind as k, Folder, get, in_package, inl, IsUnreadInRun, List, NamedUntil, None, refl, rules, SecondUntil, subst, taken_in, true, unreadable, wanting_name, ℕ}
use Rattle.bz_buildozer.proofs.FailSteps.{absent_until, by_name_of, fails_as, memory_named, memory_read, named_until, none_taken, tried_on}
use Rattle.bz_buildozer.proofs.ReadSteps.{neither_opens}
use Rattle.bz_buildozer.proofs.UnreadSteps.{among_first, among_second, grows_none, grows_on, grows_read, unread_among}
use Rattle.bz_buildozer.proofs.opening.+open_named.Goals as goal

pub returns-in-Ok-bytes_of-clause-opens : goal.returns-in-Ok-bytes_of-clause-opens
returns-in-Ok-bytes_of-clause-opens g t c = λ acts among.
    let read = c.in-Ok-bytes_of.ensures in
    let done = c.open_found.ensures.takes acts
    (among_second (g.F.Files.acts c.args.files.now) (g.F.Files.acts c.bytes_of.new.files) (g.F.Files.acts c.open_found.new.files) acts
    (grows_read (g.F.Files.acts c.args.files.now) (g.F.Files.acts c.bytes_of.new.files) read.regular) among) in (
      done.0,
      (λ honest. let held = read.found honest in named_until c.args.second c.open_found.result.cut c.args.journals acts c.args.package.now c.as_str-name.result.now
          c.in-Ok-bytes_of.text.items held.0 (g.F.Files.folder c.args.files.now) (g.F.Files.folder c.bytes_of.new.files) (taken_in c.open_found.result) done.0
          (c.as_str-name.ensures.value ∙ c.in-Ok.ensures ∙ ap (in_package c.args.package.now) c.base_of.ensures) held.1 held.2 (read.folder honest) (done.1 (read.honest ∙ honest))),
      done.2,
    )

pub returns-in-Err-Memory-clause-opens : goal.returns-in-Err-Memory-clause-opens
returns-in-Err-Memory-clause-opens g t c = λ acts among.
    fails_as g.E.Sink (λ why file lines. g.F.Files.honest c.args.files.now ≡ true → NamedUntil c.args.second why c.args.journals acts (g.F.Files.folder c.args.files.now) c.args.package.now file lines) c.fail.result cut.Memory
    c.args.err.now c.fail.new.err _ c.fail.ensures.taken
    (λ honest. memory_read c.args.second c.args.journals acts (g.F.Files.folder c.args.files.now) c.args.package.now c.as_str-name.result.now
    (c.as_str-name.ensures.value ∙ c.in-Ok.ensures ∙ ap (in_package c.args.package.now) c.base_of.ensures)) c.fail.ensures.reported

pub returns-in_default-clause-opens : goal.returns-in_default-clause-opens
returns-in_default-clause-opens g t c = λ acts among.
    none_taken g.E.Sink (λ why file lines. g.F.Files.honest c.args.files.now ≡ true → NamedUntil c.args.second why c.args.journals acts (g.F.Files.folder c.args.files.now) c.args.package.now file lines) c.unnamed.result cut.Memory
    c.args.err.now c.unnamed.new.err (wanting_name c.args.package.now) c.unnamed.ensures.taken
    (λ honest. memory_named c.args.second c.args.journals acts (g.F.Files.folder c.args.files.now) c.args.package.now) c.unnamed.ensures.told

pub returns-in-Err-Absent-2-clause-opens : goal.returns-in-Err-Absent-2-clause-opens
returns-in-Err-Absent-2-clause-opens g t c = λ acts among.
    fails_as g.E.Sink (λ why file lines. g.F.Files.honest c.args.files.now ≡ true → NamedUntil c.args.second why c.args.journals acts (g.F.Files.folder c.args.files.now) c.args.package.now file lines) c.fail_absent.result cut.Whole
    c.args.err.now c.fail_absent.new.err _ c.fail_absent.ensures.taken
    (λ honest. by_name_of c.args.second true cut.Whole c.args.journals acts (g.F.Files.folder c.args.files.now) c.args.package.now None _ c.if-not-second.false
    (neither_opens c.args.journals c.args.package.now c.as_str-name.result.now (g.F.Files.folder c.args.files.now) (c.as_str-name.ensures.value ∙ c.in-Ok.ensures ∙ ap (in_package c.args.package.now) (c.base_of.ensures ∙ ap base_of c.if-not-second.false))
    (c.in-Err-Absent.ensures.absent honest (ap Err c.in-Err-Absent.field-0-is)))) c.fail_absent.ensures.reported

pub returns-in-Err-Absent-clause-opens : goal.returns-in-Err-Absent-clause-opens
returns-in-Err-Absent-clause-opens g t c = λ acts among.
    let read = c.in-Err-Absent.ensures in
    let journals = c.args.journals in
    let current = c.args.package.now in
    let folder = g.F.Files.folder c.args.files.now in
    let second = c.open_named in
    let named = c.as_str-name.ensures.value ∙ c.in-Ok.ensures ∙ ap (in_package current) (c.base_of.ensures ∙ ap base_of c.if-not-second.true) in
    let done = second.ensures.opens acts
    (among_second (g.F.Files.acts c.args.files.now) (g.F.Files.acts c.bytes_of.new.files) (g.F.Files.acts second.new.files) acts
    (grows_read (g.F.Files.acts c.args.files.now) (g.F.Files.acts c.bytes_of.new.files) read.regular) among) in (
      done.0,
      (λ honest. by_name_of c.args.second false second.result.cut journals acts folder current (taken_in second.result) done.0 c.if-not-second.true
          (absent_until second.result.cut journals acts folder current (taken_in second.result) done.0
          (subst (λ (name : List ℕ). get folder name ≡ None) named (read.absent honest (ap Err c.in-Err-Absent.field-0-is)))
          (subst (λ (now : Folder). SecondUntil second.result.cut journals acts now current (taken_in second.result) done.0) (read.folder honest) (done.1 (read.honest ∙ honest))))),
      done.2,
    )

pub returns-in-Err-clause-opens : goal.returns-in-Err-clause-opens
returns-in-Err-clause-opens g t c = λ acts among.
    fails_as g.E.Sink (λ why file lines. g.F.Files.honest c.args.files.now ≡ true → NamedUntil c.args.second why c.args.journals acts (g.F.Files.folder c.args.files.now) c.args.package.now file lines) c.fail-in-Err.result cut.Files
    c.args.err.now c.fail-in-Err.new.err _ c.fail-in-Err.ensures.taken
    (λ honest. by_name_of c.args.second true cut.Files c.args.journals acts (g.F.Files.folder c.args.files.now) c.args.package.now None _ c.if-second.true
    (let named = c.as_str-name.ensures.value ∙ c.in-Ok.ensures ∙ ap (in_package c.args.package.now) (c.base_of.ensures ∙ ap base_of c.if-second.true) in
    inl (
      refl,
      ap unreadable named,
      subst (IsUnreadInRun acts) named (unread_among (g.F.Files.acts c.args.files.now) (g.F.Files.acts c.bytes_of.new.files) acts c.as_str-name.result.now k.Regular
          c.in-Err.field-0 among (search rules) c.in-Err.ensures.failed),
    ))) c.fail-in-Err.ensures.reported

pub returns-clause-opens : goal.returns-clause-opens
returns-clause-opens g t c = λ acts among.
    let read = c.in-Err.ensures in
    let folder = g.F.Files.folder c.args.files.now in
    let second = c.open_named-file in
    let done = tried_on g.E.Sink (g.F.Files.honest c.args.files.now ≡ true) (g.F.Files.honest c.bytes_of.new.files ≡ true) c.args.journals acts folder
    (g.F.Files.folder c.bytes_of.new.files) c.args.package.now c.as_str-name.result.now second.result.cut (taken_in second.result) c.args.err.now
    c.report_named.new.err second.new.err (λ honest. (read.honest ∙ honest, read.folder honest)) (c.as_str-name.ensures.value ∙ c.in-Ok.ensures ∙ ap (in_package c.args.package.now) (c.base_of.ensures ∙ ap base_of c.if-second.false))
    c.report_named.ensures (unread_among (g.F.Files.acts c.args.files.now) (g.F.Files.acts c.bytes_of.new.files) acts c.as_str-name.result.now k.Regular c.in-Err.field-0
    (among_first (g.F.Files.acts c.args.files.now) (g.F.Files.acts c.bytes_of.new.files) (g.F.Files.acts second.new.files) acts second.ensures.grows among) (search rules) read.failed)
    (second.ensures.opens acts (among_second (g.F.Files.acts c.args.files.now) (g.F.Files.acts c.bytes_of.new.files) (g.F.Files.acts second.new.files) acts
    (grows_read (g.F.Files.acts c.args.files.now) (g.F.Files.acts c.bytes_of.new.files) read.regular) among)) in
    (done.0, (λ honest. by_name_of c.args.second false cut.Files c.args.journals acts folder c.args.package.now (taken_in second.result) done.0 c.if-second.false (done.1 honest)), done.2)

pub returns-in_default-clause-grows : goal.returns-in_default-clause-grows
returns-in_default-clause-grows g t c = grows_none (g.F.Files.acts c.args.files.now)

pub returns-in-Ok-bytes_of-clause-grows : goal.returns-in-Ok-bytes_of-clause-grows
returns-in-Ok-bytes_of-clause-grows g t c = grows_on (g.F.Files.acts c.args.files.now) (g.F.Files.acts c.bytes_of.new.files) (g.F.Files.acts c.open_found.new.files)
    (grows_read (g.F.Files.acts c.args.files.now) (g.F.Files.acts c.bytes_of.new.files) c.bytes_of.ensures.regular) c.open_found.ensures.grows

pub returns-in-Err-Memory-clause-grows : goal.returns-in-Err-Memory-clause-grows
returns-in-Err-Memory-clause-grows g t c = grows_read (g.F.Files.acts c.args.files.now) (g.F.Files.acts c.bytes_of.new.files) c.bytes_of.ensures.regular

pub returns-in-Err-Absent-clause-grows : goal.returns-in-Err-Absent-clause-grows
returns-in-Err-Absent-clause-grows g t c = grows_on (g.F.Files.acts c.args.files.now) (g.F.Files.acts c.bytes_of.new.files) (g.F.Files.acts c.open_named.new.files)
    (grows_read (g.F.Files.acts c.args.files.now) (g.F.Files.acts c.bytes_of.new.files) c.bytes_of.ensures.regular) c.open_named.ensures.grows

pub returns-in-Err-Absent-2-clause-grows : goal.returns-in-Err-Absent-2-clause-grows
returns-in-Err-Absent-2-clause-grows g t c = grows_read (g.F.Files.acts c.args.files.now) (g.F.Files.acts c.bytes_of.new.files) c.bytes_of.ensures.regular

pub returns-in-Err-clause-grows : goal.returns-in-Err-clause-grows
returns-in-Err-clause-grows g t c = grows_read (g.F.Files.acts c.args.files.now) (g.F.Files.acts c.bytes_of.new.files) c.bytes_of.ensures.regular

pub returns-clause-grows : goal.returns-clause-grows
returns-clause-grows g t c = grows_on (g.F.Files.acts c.args.files.now) (g.F.Files.acts c.bytes_of.new.files) (g.F.Files.acts c.open_named-file.new.files)
    (grows_read (g.F.Files.acts c.args.files.now) (g.F.Files.acts c.bytes_of.new.files) c.bytes_of.ensures.regular) c.open_named-file.ensures.grows
