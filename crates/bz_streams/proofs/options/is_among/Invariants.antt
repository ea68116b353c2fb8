use Rattle.bz_streams.proofs.Imported.{◌≡◌, drop, is_among, map}
use Rattle.bz_streams.proofs.options.is_among.Given as goal

-- the words so far are others
abbrev pub invariant-loop-known : goal.invariant-loop-known
invariant-loop-known l = is_among (map (λ s. s.now) (drop l.known-index l.table)) l.word ≡ is_among (map (λ s. s.now) l.table) l.word
