use Rattle.bz_hosts.specs.View.{view_of}
use Rattle.bz_journal.proofs.MadeLines.{are_within}
use Rattle.bz_journal.proofs.making.made_by_windows.Goals as goal

pub tidy_windows-requires-clause-within : goal.tidy_windows-requires-clause-within
tidy_windows-requires-clause-within c = are_within c.args.windows (view_of c.args.tree.now) c.args.file c.requires.over
