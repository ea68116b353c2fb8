use Rattle.std.proofs.lemmas.Result.{err_from_is_err_and}
use Rattle.bz_journal.proofs.Opening.{refused_of}
use Rattle.bz_journal.proofs.session.Session.open.Goals as goal

pub returns-in_err-digests : goal.returns-in_err-digests
returns-in_err-digests c =
    let p = err_from_is_err_and c.from_residual-in_err-digests.result c.from_residual-in_err-digests.ensures.1 in
    rw (p.1, p.2) (refused_of c.args.«package».now c.args.text.now c.in_ok-course.course c.in_ok-course.ensures.too_large c.in_ok-course.ensures.not_utf8)
