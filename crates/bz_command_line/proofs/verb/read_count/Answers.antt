use Rattle.std.proofs.Common.{arith, sym}
use Rattle.bz_command_line.proofs.Counts.{count_large}
use Rattle.bz_command_line.proofs.verb.read_count.Goals as goal

pub returns-then-count-from : goal.returns-then-count-from
returns-then-count-from c =
    sym (count_large c.args.word.now c.loop-byte.count c.loop-byte.left.now c.in-Some.field-0-0.now c.in-Some.rest.now c.loop-byte.invariant.counted
    c.in-Some.ensures.cases.0 (omega arith))
