use Rattle.bz_streams.proofs.Imported.{◌-◌, ◌≡◌, drop, from_character}
use Rattle.bz_streams.proofs.beginning.from_column.Given as goal

-- what is sought of what is left is what is sought of all
abbrev pub invariant-loop-at : goal.invariant-loop-at
invariant-loop-at l = from_character l.left (drop l.at l.line) ≡ from_character (l.column - 1) l.line
