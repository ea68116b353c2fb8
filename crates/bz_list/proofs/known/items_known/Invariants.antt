use Rattle.bz_list.proofs.Words.{◌++◌, ◌+◌, ◌≡◌, body_of, drop, false, flat_map, knows_word, listed, with_all}
use Rattle.bz_list.proofs.known.items_known.Given as goal

abbrev pub invariant-loop-x : goal.invariant-loop-x
invariant-loop-x l =
    let current = l.fn.slot.current.now in
    let attribute = l.fn.slot.attribute.now in
    with_all current attribute body_of (flat_map listed (drop l.x-index l.operands)) (knows_word current attribute l.known) ≡ with_all current attribute body_of (flat_map listed l.fn.operands) (λ word. false)

abbrev pub invariant-loop-item : goal.invariant-loop-item
invariant-loop-item l =
    let current = l.fn.slot.current.now in
    let attribute = l.fn.slot.attribute.now in
    with_all current attribute body_of (drop l.item-index l.item-items ++ flat_map listed (drop (l.x-index + 1) l.operands)) (knows_word current attribute l.known)
    ≡ with_all current attribute body_of (flat_map listed l.fn.operands) (λ word. false)
