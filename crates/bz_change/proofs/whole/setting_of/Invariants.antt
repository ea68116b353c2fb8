use Rattle.bz_change.proofs.Words.{◌++◌, ◌≡◌, drop, map, string_of}
use Rattle.bz_change.proofs.whole.setting_of.Given as goal

-- the strings so far, and those of the words that are left, are those of all words
abbrev pub invariant-loop-word : goal.invariant-loop-word
invariant-loop-word l = l.strings.items ++ map (string_of l.slot.current.now l.slot.attribute.now) (drop l.word-index l.words) ≡ map (string_of l.slot.current.now l.slot.attribute.now) l.words
