use Rattle.std.proofs.Common.{◌≡◌, take}
use Rattle.bz_grammar.proofs.+same.Given as goal

abbrev pub invariant-same::same_parts-loop-i : goal.invariant-same::same_parts-loop-i
invariant-same::same_parts-loop-i l = take l.i l.a ≡ take l.i l.b
