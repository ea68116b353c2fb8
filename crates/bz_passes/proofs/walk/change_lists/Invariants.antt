use Rattle.bz_passes.proofs.Words.{◌++◌, ◌≡◌, drop, Expr, Kind as k, list_changed, map, on_items, parts_of, take}
use Rattle.bz_passes.proofs.walk.change_lists.Given as goal

abbrev pub invariant-loop-operand : goal.invariant-loop-operand
invariant-loop-operand l =
    let change : Expr → Expr = on_items k.List (list_changed l.fn.place.has_labels l.fn.place.outside.now l.fn.place.by_table) in
    take l.operand-index l.operand-items ++ map change (drop l.operand-index l.operand-items) ≡ map change (parts_of l.fn.x)
