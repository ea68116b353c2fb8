use Rattle.std.proofs.Common.{◌∙◌, arith}
use Rattle.bz_hosts.proofs.RowSteps.{gap_of_last}
use Rattle.bz_hosts.proofs.before.gap_of_last.Goals as goal

pub returns-in-len1-up : goal.returns-in-len1-up
returns-in-len1-up c = c.gap_before.ensures ∙ gap_of_last c.args.parts.now _ c.last-item.result (omega arith) c.last-item.is
