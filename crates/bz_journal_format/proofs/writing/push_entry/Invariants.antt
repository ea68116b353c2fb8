use Rattle.bz_journal_format.proofs.Words.{◌++◌, ◌≡◌, edit_text, flat_map, take}
use Rattle.bz_journal_format.proofs.writing.push_entry.Given as goal

abbrev pub invariant-edits : goal.invariant-edits
invariant-edits l = l.out.items ≡ l.initial.out.items ++ flat_map edit_text (take l.edit-index l.edits)
