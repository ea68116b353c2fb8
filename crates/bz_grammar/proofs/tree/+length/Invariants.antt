use Rattle.bz_grammar.proofs.Words.{◌+◌, ◌≡◌, ◌≤◌, drop, flat_map, length, limit, spell_part, within_limit}
use Rattle.bz_grammar.proofs.tree.+length.Given as goal

abbrev pub invariant-length_with-loop-part : goal.invariant-length_with-loop-part
invariant-length_with-loop-part l =
    (within_limit (l.total + length (flat_map spell_part (drop l.part-index l.parts))) ≡ within_limit (l.bytes + length (flat_map spell_part l.parts))) × (l.total ≤ limit)
