use Rattle.bz_load.proofs.Words.{◌∙◌, arith, is_sought_import, sym}
use Rattle.bz_load.proofs.ImportSteps.{last_found}
use Rattle.bz_load.proofs.usages.last_sought.Goals as goal

pub returns-then-is_sought : goal.returns-then-is_sought
returns-then-is_sought c =
    last_found (is_sought_import c.args.sought c.args.variable.now) c.args.items.now c.loop-end.end c.index-items-end.result (omega (arith, c.loop-end-test.true)) c.loop-end.invariant.within c.index-items-end.is
    c.loop-end.invariant.none (sym c.is_sought.ensures ∙ c.if-is_sought.true)
