use Rattle.std.proofs.Common.{sym, true≢false}
use Rattle.bz_command.proofs.ruling.with_load.Goals as goal

pub returns-clause-compared : goal.returns-clause-compared
returns-clause-compared c before over same = record {
  windows = over;
  same = same;
  names = λ none. absurd (true≢false (sym none));
}
