use Rattle.bz_command.proofs.Words.{[], ◌++◌, ◌+◌, ◌≡◌, ◌≤◌, drop, into_iter_items, IsGrown, length, marked_places, marks_by, unmarked}
use Rattle.bz_command.proofs.ruling.delete.Given as goal

-- those that stay so far, and after them those of the items that are left, or all of these; the places are those of the marks that are left
abbrev pub invariant-loop-at : goal.invariant-loop-at
invariant-loop-at l = record {
  stay : l.kept.items ++ unmarked (drop l.at-iterator.count (marks_by l.fn.work l.fn.items)) (into_iter_items l.at-iterator.iter) ≡ unmarked (marks_by l.fn.work l.fn.items) l.fn.items;
  left : l.left ≡ marked_places l.at-iterator.count (drop l.at-iterator.count (marks_by l.fn.work l.fn.items));
  count : l.at-iterator.count + length (into_iter_items l.at-iterator.iter) ≡ length l.fn.items;
  grown : IsGrown l.growing l.fn.items (l.kept.items ++ into_iter_items l.at-iterator.iter);
  past : l.growing.past ≤ length l.kept.items;
  fewer : length l.kept.items + length (into_iter_items l.at-iterator.iter) ≤ length l.fn.items;
  none : length l.kept.items + length (into_iter_items l.at-iterator.iter) ≡ length l.fn.items → l.growing.windows ≡ [];
}
