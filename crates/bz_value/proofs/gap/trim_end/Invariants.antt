use Rattle.bz_value.proofs.Words.{◌≡◌, ◌≤◌, length, take, trimmed}
use Rattle.bz_value.proofs.gap.trim_end.Given as goal

abbrev pub invariant-loop-end : goal.invariant-loop-end
invariant-loop-end l = record { within : l.end ≤ length l.text; same : trimmed (take l.end l.text) ≡ trimmed l.text }

abbrev pub decreases-loop-end : goal.decreases-loop-end
decreases-loop-end l = l.end
