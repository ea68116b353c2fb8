use Rattle.bz_journal_format.proofs.Words.{◌++◌, ◌≡◌, drop, entries_of, entry_text, flat_map}
use Rattle.bz_journal_format.proofs.writing.push_entries.Given as goal

abbrev pub invariant-loop-at : goal.invariant-loop-at
invariant-loop-at l =
    l.lines.items ++ flat_map (entry_text l.version) (entries_of (drop l.at l.content.notes.now) (drop l.at l.content.steps.now))
    ≡ flat_map (entry_text l.version) (entries_of l.content.notes.now l.content.steps.now)
