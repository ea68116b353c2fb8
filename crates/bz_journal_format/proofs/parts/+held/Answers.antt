use Rattle.bz_journal_format.proofs.Words.{err_from_is_err_and, held_at, repeated}
use Rattle.bz_journal_format.proofs.Loops.{goes_on, halts, is_done}
use Rattle.bz_journal_format.proofs.parts.+held.Goals as goal

pub read_parts-returns-in_err-part : goal.read_parts-returns-in_err-part
read_parts-returns-in_err-part t c =
    let p = err_from_is_err_and c.from_residual.result c.from_residual.ensures.1 in
    rw (p.1, p.2) (halts (held_at c.args.depth) c.parts.parts.items c.args.count c.parts.counter c.parts.rest.now (repeated (held_at c.args.depth) c.args.count c.args.input.now) c.in_err-part.field-0.0 c.parts-test.true c.in_err-part.ensures c.parts.invariant)

pub read_parts-parts-preserved : goal.read_parts-parts-preserved
read_parts-parts-preserved t c =
    rw c.in_ok-push.ensures.items (goes_on (held_at c.args.depth) c.parts.parts.items c.args.count c.parts.counter c.parts.rest.now (repeated (held_at c.args.depth) c.args.count c.args.input.now) c.in_ok-part.part c.in_ok-part.after.now c.parts-test.true c.in_ok-part.ensures c.parts.invariant)

pub read_parts-returns : goal.read_parts-returns
read_parts-returns t c = rw c.shrink_to_fit.ensures.items (is_done (held_at c.args.depth) c.parts.parts.items c.args.count c.parts.counter c.parts.rest.now (repeated (held_at c.args.depth) c.args.count c.args.input.now) c.parts-test.false c.parts.invariant)
