use Rattle.bz_comment.proofs.Words.{is_sought, listed}
use Rattle.bz_comment.proofs.HostForms.{sought_here, sought_later}
use Rattle.bz_comment.proofs.hosts.first_in_lists.Goals as goal

pub returns-in-Some : goal.returns-in-Some
returns-in-Some c = sought_here (is_sought c.args.sought) listed c.args.operands.now c.loop-x.x-index c.x-item.result _ c.loop-x.invariant c.loop-x-test.true c.x-item.is c.in-Some.ensures

pub loop-x-preserved : goal.loop-x-preserved
loop-x-preserved c = sought_later (is_sought c.args.sought) listed c.args.operands.now c.loop-x.x-index c.x-item.result c.loop-x.invariant c.loop-x-test.true c.x-item.is c.in_default.ensures
