use Rattle.bz_load.proofs.Words.{◌+◌, ◌∙◌, ◌∷◌, all_comments_joined, ap, comments_without, drop, drop_more, flat_map, gathered_comments, Item, List, sym}
use Rattle.bz_load.proofs.GatheredComments.{all_joined_more}
use Rattle.bz_load.proofs.gathering.join_without_each.Goals as goal

pub loop-item-preserved : goal.loop-item-preserved
loop-item-preserved c =
    let said = comments_without c.args.symbol.now in
    let item : Item = c.item-item.result in
    let rest : List Item = drop (c.loop-item.item-index + 1) c.args.items.now in
    let own = gathered_comments c.loop-item.gone in
    let split = drop_more c.args.items.now c.loop-item.item-index item c.loop-item-test.true ∙ ap (λ first. first ∷ rest) (sym c.item-item.is) in
    ap (λ new. all_comments_joined new (flat_map said rest)) c.in_ok-join_without.ensures
    ∙ (sym (all_joined_more own (said item) (flat_map said rest)) ∙ (ap (λ xs. all_comments_joined own (flat_map said xs)) (sym split) ∙ c.loop-item.invariant))
