use Rattle.bz_token.proofs.Words.{◌≡◌, drop, Start}
use Rattle.bz_token.proofs.Opening.{last_state}
use Rattle.bz_token.proofs.scan.opens_string.Given as goal

abbrev pub invariant-bytes : goal.invariant-bytes
invariant-bytes l = last_state Start l.text ≡ last_state l.state (drop l.byte-index l.text)
