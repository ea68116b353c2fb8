use Rattle.bz_passes.proofs.Words.{◌∙◌, ◌≡◌, ap, arith, item_tidied, loads, map, sym}
use Rattle.bz_passes.proofs.{EachChanged.all_turned, Settling.by_items}
use Rattle.bz_passes.proofs.tidying.tidy_items.Goals as goal

pub returns : goal.returns
returns c =
    let each : c.loop-item.items ≡ map item_tidied c.args.items.now = all_turned item_tidied c.loop-item.items _ c.loop-item.item-index (omega arith) c.loop-item.invariant in
    c.in_ok-sort_runs.ensures ∙ (ap loads each ∙ sym (by_items c.args.items.now))
