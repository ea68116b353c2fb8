use Rattle.bz_list.proofs.Words.{◌++◌, ◌≡◌, added_to, drop, into_iter_items, knows_word, new_items, new_strings}
use Rattle.bz_list.proofs.listed.added_items.Given as goal

abbrev pub invariant-loop-word : goal.invariant-loop-word
invariant-loop-word l =
    let current = l.fn.slot.current.now in
    let attribute = l.fn.slot.attribute.now in
    l.items ++ new_strings current attribute (knows_word current attribute l.known) (drop l.word-index l.words) ≡ added_to current attribute l.fn.added (knows_word current attribute l.fn.known)

abbrev pub invariant-loop-x : goal.invariant-loop-x
invariant-loop-x l =
    let current = l.fn.slot.current.now in
    let attribute = l.fn.slot.attribute.now in
    l.items ++ new_items current attribute (knows_word current attribute l.known) (into_iter_items l.x-iterator) ≡ added_to current attribute l.fn.added (knows_word current attribute l.fn.known)
