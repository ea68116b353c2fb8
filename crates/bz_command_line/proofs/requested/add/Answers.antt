use Rattle.bz_command_line.proofs.Words.{All-push, HasPath}
use Rattle.bz_command_line.proofs.PathTexts.{has_path}
use Rattle.bz_command_line.proofs.requested.add.Goals as goal

pub returns-then-is_target-clause-paths : goal.returns-then-is_target-clause-paths
returns-then-is_target-clause-paths c each =
    rw (c.push_reserved.ensures.items, c.reserve.ensures.items)
    (All-push HasPath c.args.requested.now.targets.items c.in-Ok.target each (has_path c.args.text.now c.in-Ok.target c.in-Ok.ensures.ok c.utf8.text))
