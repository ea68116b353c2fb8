use Rattle.std.proofs.Common.{◌-◌, drop, take}
use Rattle.bz_command.proofs.MeantPlaces.{none_after}
use Rattle.bz_command.proofs.targets.lines_after.Goals as goal

pub returns-then-is_empty : goal.returns-then-is_empty
returns-then-is_empty c = none_after c.args.lines.now (take (c.args.to - c.args.from) (drop c.args.from c.args.items.now)) c.is_empty.result c.is_empty.ensures c.if-is_empty.true
