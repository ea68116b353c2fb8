use Rattle.bz_command_syntax.proofs.Imported.{◌≡◌, drop, fixes_from, fixes_of}
use Rattle.bz_command_syntax.proofs.forms.fixes_of.Given as goal

-- the fixes so far go on as those of no word do with all words
abbrev pub invariant-loop-word : goal.invariant-loop-word
invariant-loop-word l = fixes_from l.fixes (drop l.word-index l.word-items) ≡ fixes_of l.fn.words.items
