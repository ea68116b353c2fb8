use Rattle.bz_journal.proofs.Words.{err_from_is_err_and, rules, Two}
use Rattle.bz_journal.proofs.Opening.{opened_of, passed_of, refused_of}
use Rattle.bz_journal.proofs.course.begin.Goals as goal

pub returns-in-Err : goal.returns-in-Err
returns-in-Err c =
    passed_of c.args.«package».now c.args.text.now c.in-Err.fault c.in-Err.ensures.too_large c.in-Err.ensures.not_utf8
    (λ own accepted. c.in-Err.ensures.refused own accepted.0 accepted.1) c.in-Err.ensures.placed

pub returns-in_err-package : goal.returns-in_err-package
returns-in_err-package c =
    let p = err_from_is_err_and c.from_residual.result c.from_residual.ensures.1 in
    rw (p.1, p.2) (refused_of c.args.«package».now c.args.text.now c.in-Ok.tree c.in-Ok.ensures.too_large c.in-Ok.ensures.not_utf8)

pub returns : goal.returns
returns c =
    opened_of c.args.«package».now c.args.text.now c.in-Ok.tree _ c.in-Ok.ensures.too_large c.in-Ok.ensures.not_utf8 (c.in-Ok.tree, c.in-Ok.ensures.ok) (search rules) (search rules)

pub invariant_of-result : goal.invariant_of-result
invariant_of-result c = (search rules, c.new-3.ensures Two _ _ _)
