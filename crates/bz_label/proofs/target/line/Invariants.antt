use Rattle.bz_label.proofs.Words.{◌-◌, ◌^◌, ◌≡◌, decimal, min, take}
use Rattle.bz_label.proofs.target.line.Given as goal

abbrev pub invariant-loop-digit : goal.invariant-loop-digit
invariant-loop-digit l = l.line ≡ min (decimal (take l.digit-index l.digits)) (2 ^ 32 - 1)
