use Rattle.bz_comment.proofs.Words.{branch_items, is_sought}
use Rattle.bz_comment.proofs.HostForms.{sought_here, sought_later}
use Rattle.bz_comment.proofs.hosts.first_in_branches.Goals as goal

pub returns-in-Some : goal.returns-in-Some
returns-in-Some c = sought_here (is_sought c.args.sought) branch_items c.args.entries.now c.loop-entry.entry-index c.entry-item.result _ c.loop-entry.invariant c.loop-entry-test.true c.entry-item.is c.in-Some.ensures

pub loop-entry-preserved : goal.loop-entry-preserved
loop-entry-preserved c = sought_later (is_sought c.args.sought) branch_items c.args.entries.now c.loop-entry.entry-index c.entry-item.result c.loop-entry.invariant c.loop-entry-test.true c.entry-item.is c.in_default.ensures
