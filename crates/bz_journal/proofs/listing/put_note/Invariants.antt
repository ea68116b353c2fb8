use Rattle.bz_journal.proofs.Words.{◌++◌, ◌∷◌, ◌≡◌, flat_map, shown_byte, space, take}
use Rattle.bz_journal.proofs.listing.put_note.Given as goal

abbrev pub invariant-loop-byte : goal.invariant-loop-byte
invariant-loop-byte l = l.out.items ≡ l.fn.out.items ++ space ∷ flat_map shown_byte (take l.byte-index l.note)
