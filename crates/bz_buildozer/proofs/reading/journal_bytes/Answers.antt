use Rattle.bz_buildozer.proofs.Words.{[], ◌<◌, ◌∙◌, ◌≡◌, ◌⊎◌, All-nil, BeginsNoJournal, elapsed_on, Folder, get, IsRegular, length, List, reads_on, refl, Some, subst, ℕ}
use Rattle.std.proofs.lemmas.Result.{err_from_is_err_and}
use Rattle.bz_buildozer.proofs.ReadSteps.{front_enough, whole_enough}
use Rattle.bz_buildozer.proofs.reading.journal_bytes.Goals as goal

pub returns-in_err-front-clause-failed : goal.returns-in_err-front-clause-failed
returns-in_err-front-clause-failed g c =
    let p = err_from_is_err_and c.from_residual.result c.from_residual.ensures.1 in
    rw (p.1, p.2) (g.F.Files.acts c.args.files.now, ([], All-nil IsRegular, refl), c.in_err-front.ensures.failed)

pub returns-in_err-all-clause-regular : goal.returns-in_err-all-clause-regular
returns-in_err-all-clause-regular g c = reads_on (g.F.Files.acts c.args.files.now) (g.F.Files.acts c.bytes_of.new.files) (g.F.Files.acts c.bytes_of-2.new.files) c.in_ok-front.ensures.regular c.in_err-all.ensures.regular

pub returns-in_err-all-clause-failed : goal.returns-in_err-all-clause-failed
returns-in_err-all-clause-failed g c =
    let p = err_from_is_err_and c.from_residual-in_err-all.result c.from_residual-in_err-all.ensures.1 in
    rw (p.1, p.2) (g.F.Files.acts c.bytes_of.new.files, c.in_ok-front.ensures.regular, c.in_err-all.ensures.failed)

pub returns-then-is_enough-clause-found : goal.returns-then-is_enough-clause-found
returns-then-is_enough-clause-found g c = λ honest.
    let held = c.in_ok-front.ensures.found honest in
    (held.0, held.1, front_enough held.0 c.in_ok-front.front.items held.2 (subst (λ (it : List ℕ). (length it < 65536) ⊎ BeginsNoJournal it) c.as_slice.ensures.value (c.is_enough.ensures c.if-is_enough.true)))

pub returns-clause-found : goal.returns-clause-found
returns-clause-found g c = λ honest.
    let first = c.in_ok-front.ensures in
    let held = c.in_ok-all.ensures.found (first.honest ∙ honest) in
    (held.0, subst (λ (now : Folder). get now c.args.name.now ≡ Some held.0) (first.folder honest) held.1, whole_enough held.0 c.in_ok-all.all held.2)

pub returns-clause-folder : goal.returns-clause-folder
returns-clause-folder g c = λ honest. c.in_ok-all.ensures.folder (c.in_ok-front.ensures.honest ∙ honest) ∙ c.in_ok-front.ensures.folder honest

pub returns-clause-time : goal.returns-clause-time
returns-clause-time g c = λ honest.
    let first = c.in_ok-front.ensures in
    elapsed_on (g.F.Files.moment c.args.files.now) (g.F.Files.moment c.bytes_of.new.files) (g.F.Files.moment c.bytes_of-2.new.files) (g.F.Files.since c.args.files.now) (g.F.Files.since c.bytes_of.new.files)
    (g.F.Files.since c.bytes_of-2.new.files) (λ now. now ≡ g.F.Files.folder c.args.files.now) (λ now. now ≡ g.F.Files.folder c.bytes_of.new.files) (λ now same. same ∙ first.folder honest)
    (first.time honest) (c.in_ok-all.ensures.time (first.honest ∙ honest))

pub returns-clause-regular : goal.returns-clause-regular
returns-clause-regular g c = reads_on (g.F.Files.acts c.args.files.now) (g.F.Files.acts c.bytes_of.new.files) (g.F.Files.acts c.bytes_of-2.new.files) c.in_ok-front.ensures.regular c.in_ok-all.ensures.regular
