-- A course stays one, but where its action is said to be the last one.
use Rattle.bz_buildozer.proofs.Words.{◌∙◌, ◌≡◌, Action, ActsIn, Answer, Bool, Bytes, false, Form, Form as f, Ghosts as FilesOf, IsCourse, KeepFault, KeepsIn, OneStep, Reply, Result, sym, true, true≢false}

pub stays_course : (action : Action) (note : Bytes) (last : Bool) (old new : Form) (answer : Answer) (once : OneStep) → last ≡ once.holds → ActsIn last action note old answer new
    → once.holds ≡ false → IsCourse old → IsCourse new
stays_course action note last (f.Course s) (f.Course t) answer once said acts more course = tt
stays_course action note last (f.Course s) (f.Alone after) answer once said acts more course = absurd (true≢false (sym acts.0 ∙ said ∙ more))
stays_course action note last (f.Alone before) new answer once said acts more course = absurd course

pub kept_course : {F : Type 0} (files : FilesOf F) (action : Action) (note file : Bytes) (old new : Form) (answer : Result Reply KeepFault) (before after : F)
    → KeepsIn files action note file old answer new before after → IsCourse old → IsCourse new
kept_course files action note file (f.Course s) (f.Course t) answer before after keeps course = tt
kept_course files action note file (f.Course s) (f.Alone t) answer before after keeps course = absurd keeps
kept_course files action note file (f.Alone s) new answer before after keeps course = absurd course
