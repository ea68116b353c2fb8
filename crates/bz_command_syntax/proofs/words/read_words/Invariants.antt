use Rattle.bz_command_syntax.proofs.Imported.{◌++◌, ◌≡◌, length, words_after, words_of}
use Rattle.bz_command_syntax.proofs.words.read_words.Given as goal

abbrev pub invariant-loop-byte : goal.invariant-loop-byte
invariant-loop-byte l = l.words.items ++ words_after l.word.items l.after_backslash l.left ≡ words_of l.fn.text

abbrev pub decreases-loop-byte : goal.decreases-loop-byte
decreases-loop-byte l = length l.left
