use Rattle.bz_journal_format.proofs.Words.{entry_at, err_from_is_err_and, repeated}
use Rattle.bz_journal_format.proofs.Loops.{goes_on, halts, is_done}
use Rattle.bz_journal_format.proofs.entries.read_entries.Goals as goal

pub returns-in_err-entry : goal.returns-in_err-entry
returns-in_err-entry c =
    let p = err_from_is_err_and c.from_residual.result c.from_residual.ensures.1 in
    rw (p.1, p.2) (halts (entry_at c.args.version c.args.depth) c.several.entries.items c.args.count c.several.counter c.several.rest.now (repeated (entry_at c.args.version c.args.depth) c.args.count c.args.input.now) c.in_err-entry.field-0.0 c.several-test.true c.in_err-entry.ensures c.several.invariant)

pub several-preserved : goal.several-preserved
several-preserved c =
    rw c.in_ok-push.ensures.items (goes_on (entry_at c.args.version c.args.depth) c.several.entries.items c.args.count c.several.counter c.several.rest.now (repeated (entry_at c.args.version c.args.depth) c.args.count c.args.input.now) c.in_ok-entry.entry c.in_ok-entry.after.now c.several-test.true c.in_ok-entry.ensures c.several.invariant)

pub returns : goal.returns
returns c = is_done (entry_at c.args.version c.args.depth) c.several.entries.items c.args.count c.several.counter c.several.rest.now (repeated (entry_at c.args.version c.args.depth) c.args.count c.args.input.now) c.several-test.false c.several.invariant
