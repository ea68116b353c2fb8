use Rattle.std.proofs.lemmas.Result.{err_from_is_err_and}
use Rattle.bz_journal.proofs.past.Past.open.Goals as goal

pub returns-in_err-course : goal.returns-in_err-course
returns-in_err-course c =
    let p = err_from_is_err_and c.from_residual.result c.from_residual.ensures.1 in
    rw (p.1, p.2) c.in_err-course.ensures
