use Rattle.bz_command_syntax.proofs.Imported.{◌++◌, ◌≡◌, drop, each_of, option_map}
use Rattle.bz_command_syntax.proofs.forms.each.Given as goal

-- what was made so far, and what the words that are left are, is what all words are
abbrev pub invariant-loop-word : goal.invariant-loop-word
invariant-loop-word g l = option_map (λ more. l.all.items ++ more) (each_of g.X.FromWord.form (drop l.word-index l.words)) ≡ each_of g.X.FromWord.form l.words
