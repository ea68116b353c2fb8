use Rattle.bz_load.proofs.KnownSteps.{symbol_inserted}
use Rattle.bz_load.proofs.adding.insert_key.Goals as goal

pub returns-clause-known : goal.returns-clause-known
returns-clause-known c = λ other. symbol_inserted c.args.known.now.keys _ c.args.key other c.in_ok-new.ensures.keys
