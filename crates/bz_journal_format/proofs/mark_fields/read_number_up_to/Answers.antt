use Rattle.std.proofs.lemmas.Result.{err_from_is_err_and}
use Rattle.bz_journal_format.proofs.Counting.{up_to_past, up_to_read, up_to_unread}
use Rattle.bz_journal_format.proofs.mark_fields.read_number_up_to.Goals as goal

pub returns-in_err-number-clause-value : goal.returns-in_err-number-clause-value
returns-in_err-number-clause-value c =
    let p = err_from_is_err_and c.from_residual.result c.from_residual.ensures.1 in
    rw (p.1, p.2) (up_to_unread c.args.limit c.args.stop c.args.input.now c.in_err-number.field-0.0 c.in_err-number.ensures)

pub returns-then-number-limit-clause-value : goal.returns-then-number-limit-clause-value
returns-then-number-limit-clause-value c =
    up_to_past c.args.limit c.args.stop c.args.input.now c.in_ok-number.number c.in_ok-number.rest.now c.in_ok-number.ensures c.if-number-limit.true

pub returns-clause-value : goal.returns-clause-value
returns-clause-value c =
    up_to_read c.args.limit c.args.stop c.args.input.now c.in_ok-number.number c.in_ok-number.rest.now c.in_ok-number.ensures c.if-number-limit.false
