use Rattle.bz_grammar.proofs.Words.{AllByRecursion, IsBuildPart, take}
use Rattle.bz_grammar.proofs.older.+older.Given as goal

abbrev pub invariant-have_newer-loop-i : goal.invariant-have_newer-loop-i
invariant-have_newer-loop-i l = AllByRecursion IsBuildPart (take l.i l.parts)
