use Rattle.std.proofs.Common.{◌≡◌, take}
use Rattle.bz_value.proofs.+same.Given as goal

abbrev pub invariant-same::same_exprs-loop-i : goal.invariant-same::same_exprs-loop-i
invariant-same::same_exprs-loop-i l = take l.i l.a ≡ take l.i l.b
