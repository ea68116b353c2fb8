use Rattle.bz_streams.proofs.Imported.{◌≡◌, drop, map, strange_option}
use Rattle.bz_streams.proofs.options.strange_option.Given as goal

-- the words so far are known, or no options
abbrev pub invariant-loop-word : goal.invariant-loop-word
invariant-loop-word g l =
    strange_option (map (λ s. s.now) l.names) l.letters (map g.S.AsStr.text (drop l.word-index l.words))
    ≡ strange_option (map (λ s. s.now) l.names) l.letters (map g.S.AsStr.text l.words)
