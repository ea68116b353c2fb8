use Rattle.bz_resume.proofs.Words.{ap, Edit, Err, HasStood, IsOpened, IsResumed, List, NoneAgrees, refl, Resumed, subst, sym, trail_at}
use Rattle.bz_resume.proofs.Loops.{when_none, when_some}
use Rattle.bz_resume.proofs.Stands.{written_back}
use Rattle.bz_resume.proofs.Outcomes.{opened_trail, is_resumed, is_stale, known_ok, known_stale, no_journal, none_journal, not_other}
use Rattle.bz_resume.proofs.resuming.resume.Goals as goal

pub returns-in-Err-Damaged-clause-damaged : goal.returns-in-Err-Damaged-clause-damaged
returns-in-Err-Damaged-clause-damaged c _ = no_journal c.args.journal.now (c.in-Err-Damaged.ensures.damaged (ap Err c.in-Err-Damaged.field-0-is))

pub returns-in-Err-Damaged-clause-known : goal.returns-in-Err-Damaged-clause-known
returns-in-Err-Damaged-clause-known c = no_journal c.args.journal.now (c.in-Err-Damaged.ensures.damaged (ap Err c.in-Err-Damaged.field-0-is))

pub returns-in-Err-Version-clause-known : goal.returns-in-Err-Version-clause-known
returns-in-Err-Version-clause-known c h es = not_other c.args.journal.now h es (c.in-Err-Version.ensures.version.0 (ap Err c.in-Err-Version.field-0-is))

pub returns-in_default-clause-damaged : goal.returns-in_default-clause-damaged
returns-in_default-clause-damaged c _ = none_journal c.args.journal.now c.in-Ok.record c.in-Ok.ensures.ok
    (when_none (NoneAgrees c.in-Ok.record) (IsOpened c.in-Ok.record) c.in_ok-resumed.field-0 c.in_default.is c.in_ok-resumed.ensures)

pub returns-in_default-clause-known : goal.returns-in_default-clause-known
returns-in_default-clause-known c = returns-in_default-clause-damaged c refl

pub returns-in-None-clause-stale : goal.returns-in-None-clause-stale
returns-in-None-clause-stale c _ =
    let s = c.in-Some.resumed in
    is_stale c.args.journal.now c.args.text.now c.in-Ok.record c.in-Ok.ensures.ok s
    (when_some (NoneAgrees c.in-Ok.record) (IsOpened c.in-Ok.record) c.in_ok-resumed.field-0 s c.in-Some.is c.in_ok-resumed.ensures)
    (subst (HasStood (trail_at s.tree s.steps s.cursor) c.in-Ok.record.before c.args.text.now c.stand.new.tree c.stand.new.steps) c.in-None.is
    (subst (λ (l : List (List Edit)). HasStood (trail_at s.tree l s.cursor) c.in-Ok.record.before c.args.text.now c.stand.new.tree c.stand.new.steps c.in_ok-cursor.field-0) c.as_mut_slice-steps.ensures.value c.in_ok-cursor.ensures))

pub returns-in-None-clause-known : goal.returns-in-None-clause-known
returns-in-None-clause-known c h es journal = known_stale c.args.journal.now c.args.text.now h es journal (returns-in-None-clause-stale c refl)

pub returns-in-Some-2-clause-ok : goal.returns-in-Some-2-clause-ok
returns-in-Some-2-clause-ok c =
    let s = c.in-Some.resumed in
    let opened = when_some (NoneAgrees c.in-Ok.record) (IsOpened c.in-Ok.record) c.in_ok-resumed.field-0 s c.in-Some.is c.in_ok-resumed.ensures in
    let stood = subst (HasStood (trail_at s.tree s.steps s.cursor) c.in-Ok.record.before c.args.text.now c.stand.new.tree c.stand.new.steps) c.in-Some-2.is
    (subst (λ (l : List (List Edit)). HasStood (trail_at s.tree l s.cursor) c.in-Ok.record.before c.args.text.now c.stand.new.tree c.stand.new.steps c.in_ok-cursor.field-0) c.as_mut_slice-steps.ensures.value c.in_ok-cursor.ensures) in
    let trail = opened_trail c.args.journal.now c.args.text.now c.in-Ok.record c.in-Ok.ensures.ok s opened in
    let back = written_back (trail_at s.tree s.steps s.cursor) c.stand.new.tree c.stand.new.steps c.in-Some-2.cursor trail stood.1 in
    subst
    (λ (l : List (List Edit)). IsResumed c.args.journal.now c.args.text.now (let r : Resumed = record { «package» = s.package; tree = c.stand.new.tree; steps = l; digests = s.digests; notes = s.notes; cursor = c.in-Some-2.cursor } in r))
    (sym back) (is_resumed c.args.journal.now c.args.text.now c.in-Ok.record c.in-Ok.ensures.ok s opened c.stand.new.tree c.stand.new.steps c.in-Some-2.cursor stood.0 stood.1)

pub returns-in-Some-2-clause-known : goal.returns-in-Some-2-clause-known
returns-in-Some-2-clause-known c h es journal = known_ok c.args.journal.now c.args.text.now h es _ journal (returns-in-Some-2-clause-ok c)
