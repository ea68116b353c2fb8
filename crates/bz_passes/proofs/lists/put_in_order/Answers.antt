use Rattle.bz_passes.proofs.Words.{[], ◌++◌, ◌∙◌, ◌∷◌, ◌≡◌, ap, arith, Climbs, common_steps, IfOk, insert, precedes, rules, sort_by, subst, true, without_repeats}
use Rattle.bz_passes.proofs.{Listed.last_put, Listed.sorted_rises, Ranks.item_ranks, Stable.from_sort_by}
use Rattle.bz_passes.proofs.lists.put_in_order.Goals as goal

pub returns-then-are_rising : goal.returns-then-are_rising
returns-then-are_rising c =
    let rises : c.are_rising.result ≡ true = search rules in
    let is : c.args.items.items ≡ c.pop.new.self.items ++ c.in-Some.last ∷ [] = search rules in
    let put : c.insert.new.self.items ≡ insert c.pop.new.self.items c.partition_point-at.result c.in-Some.last = search rules in
    last_put c.partition_point-at.result c.pop.new.self.items c.args.items.items c.insert.new.self.items c.in-Some.last is put (subst (λ zs. Climbs precedes zs) c.as_slice.ensures.value (c.are_rising.ensures rises))

pub drop_repeats-requires : goal.drop_repeats-requires
drop_repeats-requires c = sorted_rises c.push.new.self.items _ (from_sort_by precedes item_ranks _ _ c.in_ok-sort_by.ensures.sorted c.in_ok-sort_by.ensures.stable (λ h a r h' k. search rules))

pub returns : goal.returns
returns c =
    let again : c.push.new.self.items ≡ c.args.items.items = grind (arith, common_steps) in
    subst (λ xs. IfOk c.drop_repeats.result (λ ordered. ordered.items ≡ without_repeats [] xs))
    (from_sort_by precedes item_ranks _ _ c.in_ok-sort_by.ensures.sorted c.in_ok-sort_by.ensures.stable (λ h a r h' k. search rules) ∙ ap (sort_by precedes) again) c.drop_repeats.ensures
