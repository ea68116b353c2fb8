use Rattle.bz_load.proofs.Words.{◌++◌, ◌≡◌, drop, filter, is_emptied, knows_name, map, not, take, used_alone}
use Rattle.bz_load.proofs.fixing.drop_unused.Given as goal

abbrev pub invariant-loop-item : goal.invariant-loop-item
invariant-loop-item l =
    take l.item-index l.item-items ++ map (used_alone (knows_name l.names)) (drop l.item-index l.item-items)
    ≡ map (used_alone (knows_name l.names)) (filter (λ item. not (is_emptied (knows_name l.names) item)) l.fn.items.items)
