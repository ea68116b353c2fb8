use Rattle.bz_journal.proofs.Words.{◌+◌, ◌≡◌, drop, HaveListedNamesIn, length}
use Rattle.bz_journal.proofs.naming.all_listed.Given as goal

-- what is left begins at this place, and all are listed where those in it are
abbrev pub invariant-loop-window : goal.invariant-loop-window
invariant-loop-window l = record {
  place : l.at + length l.left ≡ length l.items;
  listed : HaveListedNamesIn l.index l.at (drop l.window-index l.windows) l.left → HaveListedNamesIn l.index 0 l.windows l.items;
}
