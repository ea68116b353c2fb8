use Rattle.std.proofs.{Common.arith, lemmas.Bool.eqb-true}
use Rattle.bz_buildozer.proofs.StepLists.{one_step}
use Rattle.bz_buildozer.proofs.step.is_one_step.Goals as goal

pub returns : goal.returns
returns c = λ is.
    let commands = c.args.line.now.commands.ok.0 in
    let targets = c.args.line.now.targets.ok.0 in
    let first = c.len.ensures in
    let second = c.len-2.ensures in
    let alone = c.if-len-ne1.false in
    let single = eqb-true c.len-2.result 1 is in one_step c.args.line.now (omega (arith, commands, first, alone)) (omega (arith, targets, second, single))
