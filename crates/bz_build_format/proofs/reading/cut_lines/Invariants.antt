use Rattle.bz_build_format.proofs.Words.{◌++◌, ◌-◌, ◌≡◌, ◌≤◌, drop, length, spelled_parts}
use Rattle.bz_build_format.proofs.reading.cut_lines.Given as goal

abbrev pub invariant-loop : goal.invariant-loop
invariant-loop l = (l.count ≤ length l.left) × (l.rest ≡ l.middle ++ spelled_parts (drop (length l.left - l.count) l.left))
