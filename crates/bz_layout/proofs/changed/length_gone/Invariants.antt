use Rattle.bz_layout.proofs.Words.{◌+◌, ◌≡◌, ◌≤◌, drop, flat_map, gone_length, length, limit, spell_part}
use Rattle.bz_layout.proofs.changed.length_gone.Given as goal

abbrev pub invariant-loop-window : goal.invariant-loop-window
invariant-loop-window l =
    (l.total + length (flat_map spell_part l.rest) ≤ limit)
    × (l.total + gone_length (drop l.window-index l.windows) l.rest ≡ gone_length l.windows l.parts)
