use Rattle.std.proofs.Common.{◌∙◌}
use Rattle.bz_journal.proofs.Persisting.{kept_both, kept_neither, kept_refused, kept_still, kept_unmade}
use Rattle.bz_journal.proofs.keeping.persist.Goals as goal

pub returns-in-Err : goal.returns-in-Err
returns-in-Err g c = λ s t action note begun since acted.
    kept_refused g.F.Files action note c.args.file.now s t c.args.files.now (g.met.F.Files.only_now c.args.files.now) c.in-Err.refusal (rw c.in-Err.is at acted)

pub returns-in_default : goal.returns-in_default
returns-in_default g c = λ s t action note begun since acted.
    kept_unmade g.F.Files action note c.args.file.now s t c.args.files.now (g.met.F.Files.only_now c.args.files.now) c.in-Ok.reply (rw c.in-Ok.is at acted) (rw c.in_default.is at since)

pub returns-in_default-written : goal.returns-in_default-written
returns-in_default-written g c = λ s t action note begun since acted.
    kept_still g.F.Files action note c.args.file.now s t c.args.files.now (g.met.F.Files.only_now c.args.files.now) c.in-Ok.reply (rw c.in-Ok.is at acted)
    (rw (c.in-Ok-written.is, c.in_default-written.is) at since)

pub returns-in_default-before : goal.returns-in_default-before
returns-in_default-before g c = λ s t action note begun since acted.
    let (other, _) = rw (c.in-Ok-written.is, c.in-Some.is) at since in
    kept_unmade g.F.Files action note c.args.file.now s t c.args.files.now (g.met.F.Files.only_now c.args.files.now) c.in-Ok.reply (rw c.in-Ok.is at acted) other

pub returns-in-Ok-keep : goal.returns-in-Ok-keep
returns-in-Ok-keep g c = λ s t action note begun since acted.
    let (other, made) = rw (c.in-Ok-written.is, c.in-Some.is) at since in
    kept_both g.F.Files action note c.args.file.now s t c.args.files.now c.in-Ok.reply (rw c.in-Ok.is at acted) c.keep.new.files c.deref.result.now c.deref-2.result.now c.deref-3.result.now
    (c.deref.ensures.value ∙ (rw c.in-Ok-before.is at begun)) other (c.deref-2.ensures.value ∙ made.stored) (c.deref-3.ensures.value ∙ made.text) made.own c.in-Ok-keep.ensures

pub returns-in-Err-keep : goal.returns-in-Err-keep
returns-in-Err-keep g c = λ s t action note begun since acted.
    let (other, made) = rw (c.in-Ok-written.is, c.in-Some.is) at since in
    kept_neither g.F.Files action note c.args.file.now s t c.args.files.now c.in-Ok.reply (rw c.in-Ok.is at acted) c.keep.new.files c.deref.result.now c.deref-2.result.now c.deref-3.result.now
    (c.deref.ensures.value ∙ (rw c.in-Ok-before.is at begun)) other (c.deref-2.ensures.value ∙ made.stored) (c.deref-3.ensures.value ∙ made.text) made.own c.in-Err-keep.fault c.in-Err-keep.ensures
