use Rattle.bz_journal_format.proofs.Words.{◌-◌, ◌≡◌, entry_at, repeated}
use Rattle.bz_journal_format.proofs.Loops.{with_front}
use Rattle.bz_journal_format.proofs.entries.read_entries.Given as goal

abbrev pub invariant-several : goal.invariant-several
invariant-several l = with_front l.entries.items (repeated (entry_at l.version l.depth) (l.count - l.counter) l.rest) ≡ repeated (entry_at l.version l.depth) l.count l.input
