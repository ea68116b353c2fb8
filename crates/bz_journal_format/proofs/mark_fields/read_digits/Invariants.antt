use Rattle.bz_journal_format.proofs.Words.{◌≡◌, digits_at, length}
use Rattle.bz_journal_format.proofs.mark_fields.read_digits.Given as goal

abbrev pub invariant-digits : goal.invariant-digits
invariant-digits l = digits_at l.stop l.value l.rest ≡ digits_at l.stop l.begun l.input

abbrev pub decreases-digits : goal.decreases-digits
decreases-digits l = length l.rest
