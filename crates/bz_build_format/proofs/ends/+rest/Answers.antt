use Rattle.std.proofs.Common.{arith}
use Rattle.bz_build_format.proofs.Nodes.{node_beside}
use Rattle.bz_build_format.proofs.ends.+rest.Goals as goal

pub rest_of_part-returns-else-count-len : goal.rest_of_part-returns-else-count-len
rest_of_part-returns-else-count-len t c =
    node_beside c.args.side c.same-count.result.0 c.in-Node.node c.args.part.now c.as_slice.result.now c.args.text.now c.same-count.result.1.now c.in-Node.is c.as_slice.ensures
    (omega (arith, c.if-count-len.false, c.len.ensures)) c.same-count.ensures.text
