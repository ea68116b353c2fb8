use Rattle.bz_load.proofs.Words.{[], ◌++◌, ◌∙◌, ◌∷◌, all_comments_joined, ap, append-nil, AreOver, both, comments_around, flat_map, IsGrown, Item, length-take-le, List, no_comments, subst, sym, take, without_symbol}
use Rattle.bz_load.proofs.{OneMore.nothing_grown, ReplacedSymbols.around_made}
use Rattle.bz_load.proofs.replacing.replace_around.Goals as goal

pub returns-clause-items : goal.returns-clause-items
returns-clause-items c =
    let symbol = c.args.symbol.now in
    let front = c.args.around.front.items in
    let load = c.args.around.load in
    let back = c.args.around.back.items in
    c.from_vec.ensures
    ∙ around_made symbol front load back c.push_each.new.left.items c.push_load.new.made.items c.push_each-2.new.left.items c.in_ok-gone.gone c.leave.new.item c.put_in.new.load
    (c.in_ok-push_each.ensures.left ∙ ap (λ xs. xs ++ flat_map (without_symbol symbol) front) c.new-made.ensures.items)
    c.in_ok-push_load.ensures.made
    c.in_ok-push_each-2.ensures.left
    (c.in_ok-gone.ensures ∙ both (λ xs ys. all_comments_joined no_comments (comments_around symbol xs load ys)) c.as_slice.ensures.value c.as_slice-2.ensures.value)
    c.in_ok-leave.ensures
    c.in_ok-put_in.ensures

pub returns-clause-windows : goal.returns-clause-windows
returns-clause-windows c =
    let back = c.args.around.back.items in
    let old : List Item = take c.args.around.there (c.args.around.load ∷ []) in
    let rest : List Item = old ++ back in
    let whole : List Item = c.args.around.front.items ++ rest in
    let growing = c.new-growing.result in
    let one = c.in_ok-push_each.ensures.grown whole rest (subst (λ (xs : List Item). IsGrown growing whole (xs ++ whole)) (sym c.new-made.ensures.items) (nothing_grown growing whole c.new-growing.ensures.windows c.new-growing.ensures.past)) in
    let two = c.in_ok-push_load.ensures.grown whole old back (length-take-le c.args.around.there (c.args.around.load ∷ []) c.requires) one in
    let three = c.in_ok-push_each-2.ensures.grown whole [] (subst (λ (xs : List Item). IsGrown c.push_load.new.growing whole (c.push_load.new.made.items ++ xs)) (sym (append-nil back)) two) in
    subst (λ (xs : List Item). AreOver c.push_each-2.new.growing.windows whole xs) (append-nil c.push_each-2.new.left.items ∙ sym c.from_vec.ensures) three.over
