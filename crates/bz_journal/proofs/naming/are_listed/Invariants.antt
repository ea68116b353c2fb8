use Rattle.bz_journal.proofs.Words.{◌+◌, drop, HaveListedNames}
use Rattle.bz_journal.proofs.naming.are_listed.Given as goal

-- all are listed, where those from here on are
abbrev pub invariant-loop-at : goal.invariant-loop-at
invariant-loop-at l = HaveListedNames l.index (l.from + l.at) (drop l.at l.items) → HaveListedNames l.index l.from l.items
