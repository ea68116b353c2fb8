use Rattle.bz_journal_format.proofs.Words.{digest_line_at, err_from_is_err_and, repeated}
use Rattle.bz_journal_format.proofs.Loops.{goes_on, halts, is_done}
use Rattle.bz_journal_format.proofs.entries.read_digests.Goals as goal

pub returns-in_err-digest : goal.returns-in_err-digest
returns-in_err-digest c =
    let p = err_from_is_err_and c.from_residual.result c.from_residual.ensures.1 in
    rw (p.1, p.2) (halts digest_line_at c.several.digests.items c.args.count c.several.counter c.several.rest.now (repeated digest_line_at c.args.count c.args.input.now) c.in_err-digest.field-0.0 c.several-test.true c.in_err-digest.ensures c.several.invariant)

pub several-preserved : goal.several-preserved
several-preserved c =
    rw c.in_ok-push.ensures.items (goes_on digest_line_at c.several.digests.items c.args.count c.several.counter c.several.rest.now (repeated digest_line_at c.args.count c.args.input.now) c.in_ok-digest.digest c.in_ok-digest.after.now c.several-test.true c.in_ok-digest.ensures c.several.invariant)

pub returns : goal.returns
returns c = is_done digest_line_at c.several.digests.items c.args.count c.several.counter c.several.rest.now (repeated digest_line_at c.args.count c.args.input.now) c.several-test.false c.several.invariant
