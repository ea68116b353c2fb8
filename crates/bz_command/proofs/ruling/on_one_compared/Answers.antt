use Rattle.bz_command.proofs.Words.{◌≡◌, made_by, rules, says_itself, true}
use Rattle.bz_command.proofs.RunningItems.{same_after}
use Rattle.bz_command.proofs.ruling.on_one_compared.Goals as goal

pub returns-then-says_itself-clause-same : goal.returns-then-says_itself-clause-same
returns-then-says_itself-clause-same c =
    let tells : says_itself c.args.operation.now ≡ true = search rules in
    let step = c.on_one in
    same_after step.result (made_by c.args.operation.now c.args.work c.args.item.now) c.args.item.now step.new.item step.ensures.ok (step.ensures.same tells)
