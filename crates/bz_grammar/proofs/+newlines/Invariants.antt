use Rattle.bz_grammar.proofs.Words.{◌≡◌, flat_map, newlines, spell_part, take}
use Rattle.bz_grammar.proofs.+newlines.Given as goal

abbrev pub invariant-statement::newlines_of-loop-part :
    goal.invariant-statement::newlines_of-loop-part
invariant-statement::newlines_of-loop-part l = l.sum ≡ newlines (flat_map spell_part (take l.part-index l.parts))
