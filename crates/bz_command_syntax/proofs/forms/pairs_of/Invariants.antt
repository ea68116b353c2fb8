use Rattle.bz_command_syntax.proofs.Imported.{◌++◌, ◌≡◌, length, option_map, pairs_of}
use Rattle.bz_command_syntax.proofs.forms.pairs_of.Given as goal

-- what was made so far, and what the words that are left are, is what all words are
abbrev pub invariant-loop-key : goal.invariant-loop-key
invariant-loop-key l = option_map (λ more. l.entries ++ more) (pairs_of l.left) ≡ pairs_of l.words

abbrev pub decreases-loop-key : goal.decreases-loop-key
decreases-loop-key l = length l.left
