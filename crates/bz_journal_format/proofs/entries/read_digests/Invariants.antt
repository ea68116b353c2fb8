use Rattle.bz_journal_format.proofs.Words.{◌-◌, ◌≡◌, digest_line_at, repeated}
use Rattle.bz_journal_format.proofs.Loops.{with_front}
use Rattle.bz_journal_format.proofs.entries.read_digests.Given as goal

abbrev pub invariant-several : goal.invariant-several
invariant-several l = with_front l.digests.items (repeated digest_line_at (l.count - l.counter) l.rest) ≡ repeated digest_line_at l.count l.input
