use Rattle.std.proofs.Common.{◌≡◌, take}
use Rattle.bz_value.proofs.+copy.Given as goal

abbrev pub invariant-copy::copy_exprs-loop-expr : goal.invariant-copy::copy_exprs-loop-expr
invariant-copy::copy_exprs-loop-expr l = l.copied.items ≡ take l.expr-index l.exprs
