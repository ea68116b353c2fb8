use Rattle.bz_command_line.proofs.Words.{lit<, map_from_collect, vertical_bar, YieldsList-from_str_split}
use Rattle.bz_command_line.proofs.script.operands_in.Goals as goal

pub returns : goal.returns
returns c =
    map_from_collect _ c.collect.ensures.ran
    (YieldsList-from_str_split vertical_bar c.args.line.now (lit< tt) c.split.ensures.text c.split.ensures.has_more c.split.ensures.pattern)
