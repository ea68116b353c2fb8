use Rattle.bz_grammar.proofs.Words.{◌≡◌, drop, flat_map, leaves_part, slice_get}
use Rattle.bz_grammar.proofs.+first.Given as goal

abbrev pub invariant-statement::first_of-loop-part : goal.invariant-statement::first_of-loop-part
invariant-statement::first_of-loop-part l = slice_get (flat_map leaves_part (drop l.part-index l.parts)) 0 ≡ slice_get (flat_map leaves_part l.parts) 0
