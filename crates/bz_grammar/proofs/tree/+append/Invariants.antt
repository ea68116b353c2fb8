use Rattle.bz_grammar.proofs.Words.{◌++◌, ◌≡◌, flat_map, spell_part, take}
use Rattle.bz_grammar.proofs.tree.+append.Given as goal

abbrev pub invariant-append_all-loop-part : goal.invariant-append_all-loop-part
invariant-append_all-loop-part l = l.out.items ≡ l.fn.out.items ++ flat_map spell_part (take l.part-index l.parts)
