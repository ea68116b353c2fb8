use Rattle.bz_token.proofs.Words.{◌-◌, ◌≡◌, ◌≤◌, drop, length, longest, may_end, move, or_found, Start}
use Rattle.bz_token.proofs.scan.longest_front.Given as goal

abbrev pub invariant-bytes : goal.invariant-bytes
invariant-bytes l = record {
  found : or_found l.best l.at (longest move may_end l.state (drop l.at l.text)) ≡ longest move may_end Start l.text;
  within : l.at ≤ length l.text;
}

abbrev pub decreases-bytes : goal.decreases-bytes
decreases-bytes l = length l.text - l.at
