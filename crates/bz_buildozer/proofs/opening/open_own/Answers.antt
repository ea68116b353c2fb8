use Rattle.bz_buildozer.proofs.Words.{◌∙◌, ◌≡◌, ap, Bytes, Cut as cut, Err, FileKind as k, FileUntil, get, inl, is_some, Option, refl, rules, sym, taken_in, true, true≢false}
use Rattle.bz_buildozer.proofs.{FailSteps.fails_as, FailSteps.own_until, FileNames.folder_fits, UnreadSteps.among_second, UnreadSteps.grows_on, UnreadSteps.grows_read, UnreadSteps.unread_among}
use Rattle.bz_buildozer.proofs.opening.open_own.Goals as goal

pub open_found-requires : goal.open_found-requires
open_found-requires g c = folder_fits c.args.own.now c.folder_of-package.result.now 65536 c.folder_of-package.ensures c.requires

pub returns-in-Ok-clause-opens : goal.returns-in-Ok-clause-opens
returns-in-Ok-clause-opens g c = λ acts among.
    let read = c.in-Ok.ensures in
    let done = c.open_found.ensures.takes acts
    (among_second (g.F.Files.acts c.args.files.now) (g.F.Files.acts c.bytes_of.new.files) (g.F.Files.acts c.open_found.new.files) acts
    (grows_read (g.F.Files.acts c.args.files.now) (g.F.Files.acts c.bytes_of.new.files) read.regular) among) in (
      done.0,
      (λ honest there. let held = read.found honest in own_until c.open_found.result.cut c.args.journals acts c.folder_of-package.result.now c.args.own.now
          c.in-Ok.text.items held.0 (g.F.Files.folder c.args.files.now) (g.F.Files.folder c.bytes_of.new.files) (taken_in c.open_found.result) done.0
          c.folder_of-package.ensures held.1 held.2 (read.folder honest) (done.1 (read.honest ∙ honest))),
      done.2,
    )

pub returns-in-Err-Memory-clause-opens : goal.returns-in-Err-Memory-clause-opens
returns-in-Err-Memory-clause-opens g c = λ acts among.
    fails_as g.E.Sink (λ why file lines. g.F.Files.honest c.args.files.now ≡ true → is_some (get (g.F.Files.folder c.args.files.now) c.args.own.now) ≡ true
    → FileUntil why c.args.journals acts (g.F.Files.folder c.args.files.now) c.args.own.now file lines) c.fail.result cut.Memory c.args.err.now c.fail.new.err _
    c.fail.ensures.taken (λ honest there. inl (refl, refl, tt)) c.fail.ensures.reported

-- It was there.
pub returns-in-Err-Absent-clause-opens : goal.returns-in-Err-Absent-clause-opens
returns-in-Err-Absent-clause-opens g c = λ acts among.
    fails_as g.E.Sink (λ why file lines. g.F.Files.honest c.args.files.now ≡ true → is_some (get (g.F.Files.folder c.args.files.now) c.args.own.now) ≡ true
    → FileUntil why c.args.journals acts (g.F.Files.folder c.args.files.now) c.args.own.now file lines) c.fail-in-Err-Absent.result cut.Whole c.args.err.now
    c.fail-in-Err-Absent.new.err _ c.fail-in-Err-Absent.ensures.taken
    (λ honest there. absurd (true≢false (sym there ∙ ap (λ (held : Option Bytes). is_some held) (c.in-Err-Absent.ensures.absent honest (ap Err c.in-Err-Absent.field-0-is)))))
    c.fail-in-Err-Absent.ensures.reported

pub returns-in-Err-clause-opens : goal.returns-in-Err-clause-opens
returns-in-Err-clause-opens g c = λ acts among.
    fails_as g.E.Sink (λ why file lines. g.F.Files.honest c.args.files.now ≡ true → is_some (get (g.F.Files.folder c.args.files.now) c.args.own.now) ≡ true
    → FileUntil why c.args.journals acts (g.F.Files.folder c.args.files.now) c.args.own.now file lines) c.fail-in-Err.result cut.Files c.args.err.now c.fail-in-Err.new.err _
    c.fail-in-Err.ensures.taken
    (λ honest there. inl (
      refl,
      refl,
      unread_among (g.F.Files.acts c.args.files.now) (g.F.Files.acts c.bytes_of.new.files) acts c.args.own.now k.Regular c.in-Err.field-0 among (search rules) c.in-Err.ensures.failed,
    )) c.fail-in-Err.ensures.reported

pub returns-in-Ok-clause-grows : goal.returns-in-Ok-clause-grows
returns-in-Ok-clause-grows g c = grows_on (g.F.Files.acts c.args.files.now) (g.F.Files.acts c.bytes_of.new.files) (g.F.Files.acts c.open_found.new.files)
    (grows_read (g.F.Files.acts c.args.files.now) (g.F.Files.acts c.bytes_of.new.files) c.bytes_of.ensures.regular) c.open_found.ensures.grows

pub returns-in-Err-Memory-clause-grows : goal.returns-in-Err-Memory-clause-grows
returns-in-Err-Memory-clause-grows g c = grows_read (g.F.Files.acts c.args.files.now) (g.F.Files.acts c.bytes_of.new.files) c.bytes_of.ensures.regular

pub returns-in-Err-Absent-clause-grows : goal.returns-in-Err-Absent-clause-grows
returns-in-Err-Absent-clause-grows g c = grows_read (g.F.Files.acts c.args.files.now) (g.F.Files.acts c.bytes_of.new.files) c.bytes_of.ensures.regular

pub returns-in-Err-clause-grows : goal.returns-in-Err-clause-grows
returns-in-Err-clause-grows g c = grows_read (g.F.Files.acts c.args.files.now) (g.F.Files.acts c.bytes_of.new.files) c.bytes_of.ensures.regular
