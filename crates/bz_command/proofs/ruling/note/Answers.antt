use Rattle.std.proofs.Common.{arith, suc}
use Rattle.bz_command.proofs.MeantPlaces.{ascend_from}
use Rattle.bz_command.proofs.ruling.note.Goals as goal

pub returns-then-same-clause-order : goal.returns-then-same-clause-order
returns-then-same-clause-order c = λ end places h. ascend_from c.args.growing.now.past (suc c.args.at) end places (omega (arith, h.0)) h.2
