use Rattle.bz_command.proofs.Words.{◌↔◌, ◌≡◌, arguments_by, IfOk, IsTrue, Ok, Operation, says_itself, subst, sym, values_changed}
use Rattle.bz_command.proofs.RunningItems.{same_made}
use Rattle.bz_command.proofs.ruling.change.Goals as goal

pub returns-in-Value-clause-same : goal.returns-in-Value-clause-same
returns-in-Value-clause-same c = λ tells.
    let list = c.args.list.now in
    let step = c.change_values in
    subst (λ (operation : Operation). IfOk step.result (λ same. IsTrue same ↔ (arguments_by operation c.args.work list ≡ Ok list))) (sym c.in-Value.is)
    (same_made step.result (values_changed c.in-Value.operation c.args.work.current.now list) list step.new.arguments step.ensures.ok
    (step.ensures.same (subst (λ (operation : Operation). IsTrue (says_itself operation)) c.in-Value.is tells)))
