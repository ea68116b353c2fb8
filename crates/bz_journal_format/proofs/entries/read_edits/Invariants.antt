use Rattle.bz_journal_format.proofs.Words.{◌-◌, ◌≡◌, edit_at, repeated}
use Rattle.bz_journal_format.proofs.Loops.{with_front}
use Rattle.bz_journal_format.proofs.entries.read_edits.Given as goal

abbrev pub invariant-several : goal.invariant-several
invariant-several l = with_front l.edits.items (repeated (edit_at l.depth) (l.count - l.counter) l.rest) ≡ repeated (edit_at l.depth) l.count l.input
