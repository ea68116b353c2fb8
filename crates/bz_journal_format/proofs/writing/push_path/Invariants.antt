use Rattle.bz_journal_format.proofs.Words.{◌++◌, ◌≡◌, flat_map, spaced_number, take}
use Rattle.bz_journal_format.proofs.writing.push_path.Given as goal

abbrev pub invariant-path : goal.invariant-path
invariant-path l = l.out.items ≡ l.fn.out.items ++ flat_map spaced_number (take l.entry-index l.path)
