use Rattle.bz_passes.proofs.Words.{rules, sort_by, symbol_precedes}
use Rattle.bz_passes.proofs.{Ranks.symbol_ranks, Sorting.rest_put, Stable.from_sort_by}
use Rattle.bz_passes.proofs.symbols.sort_rest.Goals as goal

pub returns-in_ok-sort_by : goal.returns-in_ok-sort_by
returns-in_ok-sort_by c =
    rest_put (sort_by symbol_precedes) c.args.items.now _ c.in-len1-up.len_at_least
    (from_sort_by symbol_precedes symbol_ranks _ _ c.in_ok-sort_by.ensures.sorted c.in_ok-sort_by.ensures.stable (λ h a r h' k. search rules))
