use Rattle.bz_list.proofs.Words.{◌≡◌, drop, false, knows_word, Some, with_all}
use Rattle.bz_list.proofs.known.words_chosen.Given as goal

abbrev pub invariant-loop-word : goal.invariant-loop-word
invariant-loop-word l =
    let current = l.fn.slot.current.now in
    let attribute = l.fn.slot.attribute.now in
    with_all current attribute (λ word. Some word) (drop l.word-index l.words) (knows_word current attribute l.known) ≡ with_all current attribute (λ word. Some word) l.words (λ word. false)
