use Rattle.bz_passes.proofs.Words.{◌≡◌, false, fronts, has_newer_node, quotes_in, with_flags}
use Rattle.bz_passes.proofs.names.is_still.Given as goal

abbrev pub invariant-loop-front : goal.invariant-loop-front
invariant-loop-front l = (quotes_in l.at ≡ l.at → quotes_in l.x ≡ l.x) × (with_flags l.at ≡ l.at → with_flags l.x ≡ l.x) × (has_newer_node l.at ≡ false → has_newer_node l.x ≡ false)

abbrev pub decreases-loop-front : goal.decreases-loop-front
decreases-loop-front l = fronts l.at
