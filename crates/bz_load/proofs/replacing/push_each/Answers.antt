use Rattle.bz_load.proofs.Words.{◌++◌, ◌∙◌, ◌∷◌, ◌≡◌, ap, append_assoc, flat_map, into_iter_items, IsGrown, Item, List, rules, subst, sym, without_symbol}
use Rattle.bz_load.proofs.replacing.push_each.Goals as goal

pub loop-item-preserved : goal.loop-item-preserved
loop-item-preserved c =
    let symbol = c.args.symbol.now in
    let l = c.loop-item in
    let item = c.in-Some.item in
    let next = into_iter_items c.next.new.self in
    let split : into_iter_items l.item-iterator ≡ item ∷ next = search rules in record {
      left =
          ap (λ xs. xs ++ flat_map (without_symbol symbol) next) c.in_ok-push_without.ensures.left
          ∙ (append_assoc l.left.items (without_symbol symbol item) (flat_map (without_symbol symbol) next) ∙ (ap (λ xs. l.left.items ++ flat_map (without_symbol symbol) xs) (sym split) ∙ l.invariant.left));
      grown = λ before rest grown. c.in_ok-push_without.ensures.grown before (next ++ rest) (subst (λ (xs : List Item). IsGrown l.growing before (l.left.items ++ (xs ++ rest))) split (l.invariant.grown before rest grown));
      past = c.in_ok-push_without.ensures.past;
    }
