use Rattle.bz_journal_format.proofs.Words.{err_from_is_err_and, number_at, repeated, space}
use Rattle.bz_journal_format.proofs.Loops.{goes_on, halts, is_done}
use Rattle.bz_journal_format.proofs.entries.read_path.Goals as goal

pub returns-in_err-entry : goal.returns-in_err-entry
returns-in_err-entry c =
    let p = err_from_is_err_and c.from_residual.result c.from_residual.ensures.1 in
    rw (p.1, p.2) (halts (number_at space) c.several.path.items c.args.count c.several.counter c.several.rest.now (repeated (number_at space) c.args.count c.args.input.now) c.in_err-entry.field-0.0 c.several-test.true c.in_err-entry.ensures c.several.invariant)

pub several-preserved : goal.several-preserved
several-preserved c =
    rw c.in_ok-push.ensures.items (goes_on (number_at space) c.several.path.items c.args.count c.several.counter c.several.rest.now (repeated (number_at space) c.args.count c.args.input.now) c.in_ok-entry.entry c.in_ok-entry.after.now c.several-test.true c.in_ok-entry.ensures c.several.invariant)

pub returns : goal.returns
returns c = rw c.shrink_to_fit.ensures.items (is_done (number_at space) c.several.path.items c.args.count c.several.counter c.several.rest.now (repeated (number_at space) c.args.count c.args.input.now) c.several-test.false c.several.invariant)
