use Rattle.bz_load.proofs.Words.{◌+◌, ◌==◌, ◌∙◌, ◌∷◌, ◌≡◌, ap, arith, drop, drop_all, drop_more, eqb-true, is_load_item, is_local, Item, List, min, sym}
use Rattle.bz_load.proofs.ReplacedAgain.{chosen, count, in_items, in_next}
use Rattle.bz_load.proofs.replacing.is_local_once.Goals as goal

pub loop-item-preserved : goal.loop-item-preserved
loop-item-preserved c =
    let test = is_local c.args.symbol.now in
    let l = c.loop-item in
    let item : Item = c.item-item.result in
    let rest : List Item = drop (l.item-index + 1) c.args.items.now in
    let split = drop_more c.args.items.now l.item-index item c.loop-item-test.true ∙ ap (λ first. first ∷ rest) (sym c.item-item.is) in
    let here : in_items test is_load_item (drop l.item-index c.args.items.now) ≡ count test (chosen is_load_item item) + in_items test is_load_item rest = ap (in_items test is_load_item) split ∙ in_next test is_load_item item rest in
    let own : c.count_of_local.result ≡ count test (chosen is_load_item item) = c.count_of_local.ensures ∙ ap (count test) c.loaded_by.ensures in
    let before : min (l.count + in_items test is_load_item (drop l.item-index c.args.items.now)) 2 ≡ min (in_items test is_load_item c.args.items.now) 2 = l.invariant in
    let after : min (c.min-count.result + in_items test is_load_item rest) 2 ≡ min (in_items test is_load_item c.args.items.now) 2 = omega (arith, here, own, before, c.saturating_add.ensures, c.min-count.ensures) in
    after

pub returns : goal.returns
returns c =
    let test = is_local c.args.symbol.now in
    let l = c.loop-item in
    let all : min (l.count + in_items test is_load_item (drop l.item-index c.args.items.now)) 2 ≡ min (in_items test is_load_item c.args.items.now) 2 = l.invariant in
    let none : in_items test is_load_item (drop l.item-index c.args.items.now) ≡ 0 = ap (in_items test is_load_item) (drop_all l.item-index c.args.items.now c.loop-item-test.false) in (
      λ is. let one = eqb-true l.count 1 is in omega (arith, one, all, none),
      λ one. let here : l.count ≡ 1 = omega (arith, one, all, none) in ap (λ n. n == 1) here,
    )
