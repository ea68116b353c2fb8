use Rattle.std.proofs.Common.{sym}
use Rattle.bz_streams.proofs.OddNames.{none_of_ascii}
use Rattle.bz_streams.proofs.names.odd_name_line.Goals as goal

pub returns-then-not-is_beyond_ascii : goal.returns-then-not-is_beyond_ascii
returns-then-not-is_beyond_ascii c = none_of_ascii c.args.text.now (sym c.if-not-is_beyond_ascii.ensures)
