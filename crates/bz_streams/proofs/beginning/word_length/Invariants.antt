use Rattle.bz_streams.proofs.Imported.{◌+◌, ◌≡◌, drop, is_word_byte, prefix_len}
use Rattle.bz_streams.proofs.beginning.word_length.Given as goal

-- the bytes so far are a word's
abbrev pub invariant-loop-at : goal.invariant-loop-at
invariant-loop-at l = prefix_len is_word_byte l.text ≡ l.at + prefix_len is_word_byte (drop l.at l.text)
