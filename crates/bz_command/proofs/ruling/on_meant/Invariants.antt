use Rattle.bz_command.proofs.Words.{[], ◌≡◌, Ascend, drop, HaveSameNames, IsGrown, IsTrue, Item as i, length, one_made_by}
use Rattle.bz_command.proofs.MeantPlaces.{on_places}
use Rattle.bz_command.proofs.ruling.on_meant.Given as goal

-- What is made at all places is what is made at those that are left, of the items as they are now. These places are after the last window, where
-- items are as they were.
abbrev pub invariant-loop-at : goal.invariant-loop-at
invariant-loop-at l = record {
  made : on_places (one_made_by l.fn.work) (i.Block []) l.places l.fn.items ≡ on_places (one_made_by l.fn.work) (i.Block []) (drop l.at-index l.places) l.items;
  order : Ascend l.growing.past (length l.fn.items) (drop l.at-index l.places);
  grown : IsGrown l.growing l.fn.items l.items;
  none : l.items ≡ l.fn.items → l.growing.windows ≡ [];
  left : drop l.growing.past l.items ≡ drop l.growing.past l.fn.items;
  names : IsTrue l.same_names → HaveSameNames l.fn.items l.items;
  count : length l.items ≡ length l.fn.items;
}
