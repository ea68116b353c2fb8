use Rattle.bz_journal.proofs.Words.{◌++◌, flat_map, Holds256, List, spell_part, take, ℕ}
use Rattle.bz_journal.proofs.digest.+hash.Given as goal

-- what was hashed before, and after it the text of the parts so far
abbrev pub invariant-hash_parts-loop-part : goal.invariant-hash_parts-loop-part
invariant-hash_parts-loop-part l = (m : List ℕ) → Holds256 l.fn.hasher m → Holds256 l.hasher (m ++ flat_map spell_part (take l.part-index l.parts))
