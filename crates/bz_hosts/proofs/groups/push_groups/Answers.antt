use Rattle.bz_value.specs.Gaps.{lines_of}
use Rattle.bz_hosts.proofs.GroupSteps.{groups_pushed}
use Rattle.bz_hosts.proofs.groups.push_groups.Goals as goal

pub returns-clause-blocks : goal.returns-clause-blocks
returns-clause-blocks c = (groups_pushed (lines_of c.args.left.now) (lines_of c.args.gap.now) _ c.in_ok-group.group c.in_ok-last.last c.args.items.now _ _ c.new.ensures c.in_ok-group.ensures c.in_ok-last.ensures).0

pub returns-clause-last : goal.returns-clause-last
returns-clause-last c = (groups_pushed (lines_of c.args.left.now) (lines_of c.args.gap.now) _ c.in_ok-group.group c.in_ok-last.last c.args.items.now _ _ c.new.ensures c.in_ok-group.ensures c.in_ok-last.ensures).1
