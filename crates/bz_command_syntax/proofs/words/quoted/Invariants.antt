use Rattle.bz_command_syntax.proofs.Imported.{◌++◌, ◌∷◌, ◌≡◌, drop, escaped, flat_map, quotation_mark}
use Rattle.bz_command_syntax.proofs.words.quoted.Given as goal

abbrev pub invariant-loop-byte : goal.invariant-loop-byte
invariant-loop-byte l = l.text.items ++ flat_map escaped (drop l.byte-index l.word) ≡ quotation_mark ∷ flat_map escaped l.word
