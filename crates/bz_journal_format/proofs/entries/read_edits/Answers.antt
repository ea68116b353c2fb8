use Rattle.bz_journal_format.proofs.Words.{edit_at, err_from_is_err_and, repeated}
use Rattle.bz_journal_format.proofs.Loops.{goes_on, halts, is_done}
use Rattle.bz_journal_format.proofs.entries.read_edits.Goals as goal

pub returns-in_err-edit : goal.returns-in_err-edit
returns-in_err-edit c =
    let p = err_from_is_err_and c.from_residual.result c.from_residual.ensures.1 in
    rw (p.1, p.2) (halts (edit_at c.args.depth) c.several.edits.items c.args.count c.several.counter c.several.rest.now (repeated (edit_at c.args.depth) c.args.count c.args.input.now) c.in_err-edit.field-0.0 c.several-test.true c.in_err-edit.ensures c.several.invariant)

pub several-preserved : goal.several-preserved
several-preserved c =
    rw c.in_ok-push.ensures.items (goes_on (edit_at c.args.depth) c.several.edits.items c.args.count c.several.counter c.several.rest.now (repeated (edit_at c.args.depth) c.args.count c.args.input.now) c.in_ok-edit.edit c.in_ok-edit.after.now c.several-test.true c.in_ok-edit.ensures c.several.invariant)

pub returns : goal.returns
returns c = rw c.shrink_to_fit.ensures.items (is_done (edit_at c.args.depth) c.several.edits.items c.args.count c.several.counter c.several.rest.now (repeated (edit_at c.args.depth) c.args.count c.args.input.now) c.several-test.false c.several.invariant)
