use Rattle.bz_journal.proofs.Words.{◌++◌, ◌+◌, ◌≡◌, drop, text_lines_from}
use Rattle.bz_journal.proofs.listing.listed.Given as goal

abbrev pub invariant-loop-i : goal.invariant-loop-i
invariant-loop-i l = l.out.items ++ text_lines_from l.cursor (l.i + 1) (drop l.i l.notes) (drop l.i l.rest) ≡ l.initial.out.items ++ text_lines_from l.cursor 1 l.notes l.rest
