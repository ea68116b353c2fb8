use Rattle.bz_resume.proofs.Words.{◌∙◌, Err, Ok, PairFault as p, refl}
use Rattle.bz_resume.proofs.Checking.{as_read, held, never_err, unkept}
use Rattle.bz_resume.proofs.pair.keep.Goals as goal

pub returns-in-Err : goal.returns-in-Err
returns-in-Err g c =
    let read = c.in-Err.ensures in
    unkept g.F.Files g.met.F.Files.only_now g.met.F.Files.counts_now c.args.file.now c.args.standing.now c.args.stored.now c.args.text.now c.in-Err.fault
    c.args.files.now c.check_file.new.files read.kinds read.reads read.changed read.cause read.rest read.count read.honest read.acts.0 read.acts.1
    (λ _ _. read.acts.3)

pub returns-in_default-journal_name : goal.returns-in_default-journal_name
returns-in_default-journal_name g c =
    let read = c.in_default.ensures in
    unkept g.F.Files g.met.F.Files.only_now g.met.F.Files.counts_now c.args.file.now c.args.standing.now c.args.stored.now c.args.text.now p.Memory
    c.args.files.now c.check_file.new.files (λ is. cc) read.reads (λ _ is. cc) (λ is. cc) (λ _. read.rest (never_err _ _)) read.count read.honest
    read.acts.0 read.acts.1 (λ honest other _. absurd (other (read.ok honest)))

pub returns-in-Ok-rewrite_pair : goal.returns-in-Ok-rewrite_pair
returns-in-Ok-rewrite_pair g c =
    let read = c.check_file.ensures in
    let acts = c.in_default.ensures.acts in
    held g.F.Files g.met.F.Files.only_now g.met.F.Files.counts_now c.args.file.now c.args.standing.now c.args.stored.now c.args.text.now c.args.files.now
    c.check_file.new.files c.rewrite_pair.new.files read.honest (c.in_default.ensures.rest (never_err _ _)) c.in_default.ensures.ok read.reads
    (as_read c.args.file.now (g.F.Files.acts c.args.files.now) (g.F.Files.acts c.check_file.new.files) acts.0 acts.1 (acts.2 refl)) c.as_str.result.now (c.as_str.ensures.value ∙ c.in-Ok.ensures) (Ok tt) c.in-Ok-rewrite_pair.ensures.rewrites c.in-Ok-rewrite_pair.ensures.ordered

pub returns : goal.returns
returns g c =
    let read = c.check_file.ensures in
    let acts = c.in_default.ensures.acts in
    held g.F.Files g.met.F.Files.only_now g.met.F.Files.counts_now c.args.file.now c.args.standing.now c.args.stored.now c.args.text.now c.args.files.now
    c.check_file.new.files c.rewrite_pair.new.files read.honest (c.in_default.ensures.rest (never_err _ _)) c.in_default.ensures.ok read.reads
    (as_read c.args.file.now (g.F.Files.acts c.args.files.now) (g.F.Files.acts c.check_file.new.files) acts.0 acts.1 (acts.2 refl)) c.as_str.result.now (c.as_str.ensures.value ∙ c.in-Ok.ensures) (Err c.in-Err-rewrite_pair.field-0) c.in-Err-rewrite_pair.ensures.rewrites
    c.in-Err-rewrite_pair.ensures.ordered
