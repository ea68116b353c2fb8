use Rattle.bz_journal_format.proofs.Words.{◌-◌, ◌≡◌, number_at, repeated, space}
use Rattle.bz_journal_format.proofs.Loops.{with_front}
use Rattle.bz_journal_format.proofs.entries.read_path.Given as goal

abbrev pub invariant-several : goal.invariant-several
invariant-several l = with_front l.path.items (repeated (number_at space) (l.count - l.counter) l.rest) ≡ repeated (number_at space) l.count l.input
