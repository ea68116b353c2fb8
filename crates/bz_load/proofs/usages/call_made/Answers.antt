use Rattle.bz_load.specs.private.Known.{symbol_of_key}
use Rattle.bz_load.proofs.ImportSteps.{call_given}
use Rattle.bz_load.proofs.usages.call_made.Goals as goal

pub returns : goal.returns
returns c =
    call_given c.args.variable.now (symbol_of_key c.args.word) _ _ _ _ _ _ _ _ c.in_ok-new_token.ensures c.in_ok-arguments.ensures c.in_ok-put_import.ensures c.in_ok-new_token-2.ensures c.in_ok-function.ensures
    c.sequence.ensures c.in_ok-call.ensures c.node.ensures
