use Rattle.bz_journal.proofs.Words.{◌+◌, ◌≡◌, IsTrail, length, map, sha256, take, texts_of, trail_at}
use Rattle.bz_journal.proofs.course.Course.hashed.Given as goal

-- the tree is that of the text with this number, the texts stay, and the digests are those up to it
abbrev pub invariant-loop-at : goal.invariant-loop-at
invariant-loop-at l = record {
  trail : IsTrail (trail_at l.tree l.steps l.at);
  texts : texts_of (trail_at l.tree l.steps l.at) ≡ texts_of (trail_at l.initial.tree l.initial.steps 0);
  counted : length l.steps ≡ length l.initial.steps;
  digests : l.digests.items ≡ map sha256 (take (l.at + 1) (texts_of (trail_at l.initial.tree l.initial.steps 0)));
}
